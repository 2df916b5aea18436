use Rattle.std.proofs.Common.{take}
use Rattle.std.specs.List.{flat_map}
use Rattle.hz_io.specs.Sink.{Wrote}
use Rattle.hz_answer_model.specs.Texts.{state_field}
use Rattle.hz_report.proofs.drilled.put_fields.Given as goal

-- the states so far
abbrev pub invariant-loop-state : goal.invariant-loop-state
invariant-loop-state g l = Wrote g.S.Sink.written g.S.Sink.room g.S.Sink.faults l.fn.out l.out (flat_map state_field (take l.state-index l.states))
