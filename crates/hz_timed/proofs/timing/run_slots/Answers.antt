use Rattle.std.proofs.Common.{◌<◌, map, subst}
use Rattle.std.proofs.lemmas.Option.{get_or_from_slice_get, slice_get_within}
use Rattle.hz_sched.specs.declared.parts.Slot.{Slot}
use Rattle.hz_rtl.specs.Shape.{instructions}
use Rattle.hz_rtl.specs.States.{words}
use Rattle.hz_sched.specs.Shape.{slot_of, slots_of}
use Rattle.hz_timed.specs.Shape.{read_of}
use Rattle.hz_timed.specs.Writes.{number_by, place_count}
use Rattle.hz_timed.proofs.WholeLemmas.{timed_more, slot_found}
use Rattle.hz_timed.proofs.timing.run_slots.Goals as goal

pub time_slot-requires-clause-slot : goal.time_slot-requires-clause-slot
time_slot-requires-clause-slot c =
    let slots = c.args.slots.now in
    let n = c.loop-number.number in
    let x = c.slot_at-slot.result in
    subst (λ (s : Slot). s.place < place_count c.args.waits.now) (get_or_from_slice_get slots n x x c.slot_at-slot.ensures)
    (c.requires.slots n x (slice_get_within slots n x c.slot_at-slot.ensures))

pub loop-number-preserved : goal.loop-number-preserved
loop-number-preserved c =
    let slots = c.args.slots.now in
    let block = instructions c.args.waits.now.block.now in
    let n = c.loop-number.number in
    let x = c.slot_at-slot.result in
    let (inside, same) = slot_found slots n x c.slot_at-slot.ensures in (
      c.in_ok-time_slot.ensures.indexed,
      c.in_ok-time_slot.ensures.places,
      timed_more block (number_by c.args.waits.now) (words c.args.start.now) (slots_of slots) c.loop-number.written c.time_slot.new.written (map read_of c.loop-number.reads.items) (map read_of c.time_slot.new.reads.items) n (slot_of x) inside same c.loop-number.invariant.2
          (λ lefts reported. c.in_ok-time_slot.ensures.reads lefts reported)
          (λ lefts reported. c.in_ok-time_slot.ensures.noted lefts reported),
    )
