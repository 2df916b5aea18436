use Rattle.std.proofs.Common.{ℕ, ◌+◌, ◌<◌, List, length, map, drop, sym, subst, arith}
use Rattle.std.specs.List.{flat_map}
use Rattle.hz_io.specs.Sink.{Wrote, Cut}
use Rattle.hz_io.proofs.Writing.{wrote_then, wrote_then_cut, cut_before}
use Rattle.hz_report.specs.Schedules.{line_by}
use Rattle.hz_sched.specs.declared.parts.Slot.{Slot}
use Rattle.hz_sched.specs.Shape.{graph_of, slot_of}
use Rattle.hz_io.proofs.PieceTexts.{lines_more, lines_parts}
use Rattle.hz_report.proofs.scheduled.put_slots.Goals as goal

-- a slot, read where there is none
abbrev some_slot : Slot
some_slot = record { place = 0; cycle = 0 }

pub loop-slot-preserved : goal.loop-slot-preserved
loop-slot-preserved g c =
    let line : Slot → List ℕ = λ x. line_by c.args.machine.now.classes.items (map (λ i. i.number) c.args.graph.now.insns.items) (graph_of c.args.graph.now) (slot_of x) in
    let inside : c.loop-slot.slot-index < length c.args.slots.now = omega arith in
    subst (λ (bytes : List ℕ). Wrote g.S.Sink.written g.S.Sink.room g.S.Sink.faults c.args.out.now c.put_slot.new.out bytes) (sym (lines_more line c.args.slots.now c.loop-slot.slot-index some_slot inside))
    (wrote_then c.loop-slot.invariant c.in-Ok.ensures)

pub returns-in-Err : goal.returns-in-Err
returns-in-Err g c =
    let line : Slot → List ℕ = λ x. line_by c.args.machine.now.classes.items (map (λ i. i.number) c.args.graph.now.insns.items) (graph_of c.args.graph.now) (slot_of x) in
    let inside : c.loop-slot.slot-index < length c.args.slots.now = omega arith in
    subst (λ (bytes : List ℕ). Cut g.S.Sink.written g.S.Sink.room g.S.Sink.faults c.args.out.now c.put_slot.new.out bytes) (sym (lines_parts line c.args.slots.now c.loop-slot.slot-index some_slot inside))
    (cut_before (flat_map line (drop (c.loop-slot.slot-index + 1) c.args.slots.now)) (wrote_then_cut c.loop-slot.invariant c.in-Err.ensures))
