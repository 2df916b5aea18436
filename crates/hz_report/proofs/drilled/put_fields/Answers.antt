use Rattle.std.proofs.Common.{ℕ, ◌+◌, ◌<◌, List, length, drop, sym, subst, arith}
use Rattle.std.specs.List.{flat_map}
use Rattle.hz_io.specs.Sink.{Wrote, Cut}
use Rattle.hz_io.proofs.Writing.{wrote_then, wrote_then_cut, cut_before}
use Rattle.hz_answer_model.specs.Texts.{state_field}
use Rattle.hz_io.proofs.PieceTexts.{lines_more, lines_parts}
use Rattle.hz_report.proofs.drilled.put_fields.Goals as goal

pub loop-state-preserved : goal.loop-state-preserved
loop-state-preserved g c =
    let inside : c.loop-state.state-index < length c.args.states.now = omega arith in
    subst (λ (bytes : List ℕ). Wrote g.S.Sink.written g.S.Sink.room g.S.Sink.faults c.args.out.now c.put_field.new.out bytes) (sym (lines_more state_field c.args.states.now c.loop-state.state-index _ inside))
    (wrote_then c.loop-state.invariant c.in-Ok.ensures)

pub returns-in-Err : goal.returns-in-Err
returns-in-Err g c =
    let inside : c.loop-state.state-index < length c.args.states.now = omega arith in
    subst (λ (bytes : List ℕ). Cut g.S.Sink.written g.S.Sink.room g.S.Sink.faults c.args.out.now c.put_field.new.out bytes) (sym (lines_parts state_field c.args.states.now c.loop-state.state-index _ inside))
    (cut_before (flat_map state_field (drop (c.loop-state.state-index + 1) c.args.states.now)) (wrote_then_cut c.loop-state.invariant c.in-Err.ensures))
