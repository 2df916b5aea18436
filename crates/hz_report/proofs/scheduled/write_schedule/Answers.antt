use Rattle.std.proofs.Common.{◌<◌, ℕ, List, length, map, All, sym, subst}
use Rattle.std.specs.List.{flat_map}
use Rattle.std.proofs.lemmas.List.Folds.{flat_map-map}
use Rattle.hz_io.specs.Sink.{Wrote, Cut, Writes}
use Rattle.hz_io.proofs.Writing.{cut_before, writes_then}
use Rattle.hz_answer_model.specs.Texts.{scheduled_line}
use Rattle.hz_report.specs.Schedules.{line_by}
use Rattle.hz_sched.specs.Shape.{graph_of, slot_of, slots_of}
use Rattle.hz_sched.specs.declared.parts.Slot.{Slot as Declared}
use Rattle.hz_block_model.specs.Scheduling.Schedules.{Slot, present}
use Rattle.hz_report.proofs.scheduled.write_schedule.Goals as goal

pub put_slots-requires-clause-places : goal.put_slots-requires-clause-places
put_slots-requires-clause-places g c =
    subst (λ (slots : List Declared). All (λ x. x.place < length c.args.graph.now.insns.items) slots) (sym c.deref.ensures.value) c.requires.range.places

pub returns-in-Ok : goal.returns-in-Ok
returns-in-Ok g c =
    let slots = c.args.schedule.now.slots.items in
    let line : Slot → List ℕ = line_by c.args.machine.now.classes.items (map (λ i. i.number) c.args.graph.now.insns.items) (graph_of c.args.graph.now) in
    let there = subst (λ (given : List Declared). Wrote g.S.Sink.written g.S.Sink.room g.S.Sink.faults c.args.out.now c.put_slots.new.out (flat_map (λ x. line (slot_of x)) given)) c.deref.ensures.value c.in-Ok.ensures in
    let lines = subst (λ (bytes : List ℕ). Wrote g.S.Sink.written g.S.Sink.room g.S.Sink.faults c.args.out.now c.put_slots.new.out bytes) (sym (flat_map-map line slot_of slots)) there in
    let counted = subst (λ (n : ℕ). Writes g.S.Sink.written g.S.Sink.room g.S.Sink.faults c.put_slots.new.out c.put_end.new.out (scheduled_line n c.last_cycle.result) c.put_end.result) c.count_of.ensures c.put_end.ensures in
    let ended = subst (λ (n : ℕ). Writes g.S.Sink.written g.S.Sink.room g.S.Sink.faults c.put_slots.new.out c.put_end.new.out (scheduled_line (length (slots_of slots)) n) c.put_end.result) c.last_cycle.ensures counted in
    writes_then c.put_end.new.out (scheduled_line (length (slots_of slots)) (present 0 (slots_of slots))) c.put_end.result lines ended

pub returns-in-Err : goal.returns-in-Err
returns-in-Err g c =
    let slots = c.args.schedule.now.slots.items in
    let line : Slot → List ℕ = line_by c.args.machine.now.classes.items (map (λ i. i.number) c.args.graph.now.insns.items) (graph_of c.args.graph.now) in
    let there = subst (λ (given : List Declared). Cut g.S.Sink.written g.S.Sink.room g.S.Sink.faults c.args.out.now c.put_slots.new.out (flat_map (λ x. line (slot_of x)) given)) c.deref.ensures.value c.in-Err.ensures in
    cut_before (scheduled_line (length (slots_of slots)) (present 0 (slots_of slots)))
    (subst (λ (bytes : List ℕ). Cut g.S.Sink.written g.S.Sink.room g.S.Sink.faults c.args.out.now c.put_slots.new.out bytes) (sym (flat_map-map line slot_of slots)) there)
