use Rattle.std.proofs.Common.{ℕ, ◌<◌, ◌^◌, List, length, get_or, Contains, ◌∙◌, sym, subst, arith}
use Rattle.std.proofs.lemmas.List.{take_all, length-set}
use Rattle.std.proofs.lemmas.List.Elements.{All-set}
use Rattle.hz_sched.specs.declared.parts.Slot.{Slot}
use Rattle.hz_sched.specs.Shape.{slots_of}
use Rattle.hz_modulo.proofs.CycleLemmas.{no_slot, reported_more}
use Rattle.hz_modulo.proofs.cycles.cycles_of.Goals as goal

pub loop-slot-preserved : goal.loop-slot-preserved
loop-slot-preserved c =
    let slots = c.args.slots.now in
    let i = c.loop-slot.slot-index in
    let cycles = c.loop-slot.cycles.items in
    let s = get_or slots i no_slot in
    let inside : i < length slots = c.loop-slot-test.true in
    let low : s.place < length cycles = let place = c.requires.places i no_slot inside in let size = c.loop-slot.invariant.size in omega (arith, place, size) in
    record {
      size = length-set cycles s.place s.cycle ∙ c.loop-slot.invariant.size;
      small = All-set (λ (n : ℕ). n < 2 ^ 30) cycles s.place s.cycle (c.requires.small i no_slot inside) c.loop-slot.invariant.small;
      reported = reported_more slots c.requires.once i inside cycles low c.loop-slot.invariant.reported;
    }

pub returns-clause-reported : goal.returns-clause-reported
returns-clause-reported c = λ x there. c.loop-slot.invariant.reported x (subst (λ (xs : List Slot). Contains (slots_of xs) x) (sym (take_all c.loop-slot.slot-index c.args.slots.now (omega (arith, c.loop-slot-test.false)))) there)
