use Rattle.std.proofs.Common.{map, take}
use Rattle.std.specs.List.{flat_map}
use Rattle.hz_io.specs.Sink.{Wrote}
use Rattle.hz_measure_model.specs.TwoContexts.Texts.{line_of_either}
use Rattle.hz_sched.specs.Shape.{graph_of}
use Rattle.hz_duo.specs.Shape.{context_slot}
use Rattle.hz_duo.proofs.writing.put_slots.Given as goal

-- the lines of the slots so far
abbrev pub invariant-loop-slot : goal.invariant-loop-slot
invariant-loop-slot g l =
    Wrote g.S.Sink.written g.S.Sink.room g.S.Sink.faults l.fn.out l.out (flat_map (λ x. line_of_either l.machine.classes.items (map (λ i. i.number) l.first.insns.items) (map (λ i. i.number) l.second.insns.items) (graph_of l.first) (graph_of l.second) (context_slot x)) (take l.slot-index l.slots))
