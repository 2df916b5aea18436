use Rattle.std.proofs.Common.{ℕ, List, map, sym, subst}
use Rattle.hz_answer_model.specs.Texts.{drill_text}
use Rattle.hz_duo.specs.Shape.{context_slot}
use Rattle.hz_duo.specs.declared.parts.DuoSlot.{DuoSlot}
use Rattle.hz_io.specs.Sink.{Writes}
use Rattle.hz_measure_model.specs.TwoContexts.Texts.{duo_text}
use Rattle.hz_sched.specs.Shape.{graph_of}
use Rattle.hz_tool.specs.Deciding.{done_text}
use Rattle.hz_tool.specs.declared.done.Done.{Done}
use Rattle.hz_tool.proofs.done.DoneEnding.write.Goals as goal

pub returns-in-Scheduled : goal.returns-in-Scheduled
returns-in-Scheduled g c =
    subst (λ (d : Done). Writes g.S.Sink.written g.S.Sink.room g.S.Sink.faults c.args.out.now c.write_schedule.new.out (done_text d) c.write_schedule.result) (sym c.in-Scheduled.is) c.write_schedule.ensures

pub returns-in-Bounded : goal.returns-in-Bounded
returns-in-Bounded g c =
    subst (λ (d : Done). Writes g.S.Sink.written g.S.Sink.room g.S.Sink.faults c.args.out.now c.write_bound.new.out (done_text d) c.write_bound.result) (sym c.in-Bounded.is) c.write_bound.ensures

pub returns-in-Paired : goal.returns-in-Paired
returns-in-Paired g c =
    let at = c.in-Paired in
    subst (λ (d : Done). Writes g.S.Sink.written g.S.Sink.room g.S.Sink.faults c.args.out.now c.write_duo.new.out (done_text d) c.write_duo.result) (sym at.is)
    (subst (λ (slots : List DuoSlot). Writes g.S.Sink.written g.S.Sink.room g.S.Sink.faults c.args.out.now c.write_duo.new.out (duo_text at.machine.classes.items (map (λ i. i.number) at.first.insns.items) (map (λ i. i.number) at.second.insns.items) (graph_of at.first) (graph_of at.second) (map context_slot slots) at.alone.0 at.alone.1) c.write_duo.result)
    c.deref-in-Paired.ensures.value c.write_duo.ensures)

pub returns-in-Timed : goal.returns-in-Timed
returns-in-Timed g c =
    subst (λ (d : Done). Writes g.S.Sink.written g.S.Sink.room g.S.Sink.faults c.args.out.now c.write_timed.new.out (done_text d) c.write_timed.result) (sym c.in-Timed.is) c.write_timed.ensures

pub returns-in-Overlapped : goal.returns-in-Overlapped
returns-in-Overlapped g c =
    subst (λ (d : Done). Writes g.S.Sink.written g.S.Sink.room g.S.Sink.faults c.args.out.now c.write_kernel.new.out (done_text d) c.write_kernel.result) (sym c.in-Overlapped.is) c.write_kernel.ensures

pub returns-in-Drilled : goal.returns-in-Drilled
returns-in-Drilled g c =
    let at = c.in-Drilled in
    subst (λ (d : Done). Writes g.S.Sink.written g.S.Sink.room g.S.Sink.faults c.args.out.now c.write_drill.new.out (done_text d) c.write_drill.result) (sym at.is)
    (subst (λ (states : List ℕ). Writes g.S.Sink.written g.S.Sink.room g.S.Sink.faults c.args.out.now c.write_drill.new.out (drill_text at.turns at.issues at.cycles states) c.write_drill.result) c.deref-in-Drilled.ensures.value c.write_drill.ensures)
