use Rattle.std.proofs.Common.{◌↔◌, ℕ, List, Contains, subst}
use Rattle.std.proofs.lemmas.List.{take_all}
use Rattle.hz_base_model.specs.Pairs.{Pair}
use Rattle.hz_base_model.proofs.Elements.{Contains-nil}
use Rattle.hz_altern.specs.Reserved.{IsOfUnits}
use Rattle.hz_altern.specs.Shapes.{pairs_of}
use Rattle.hz_altern.proofs.ReserveLemmas.{units_more, no_units}
use Rattle.hz_description_model.specs.Reservations.Automata.{UnitPlace}
use Rattle.hz_altern.proofs.listing.reserving.listed.Goals as goal

pub loop-automaton-preserved : goal.loop-automaton-preserved
loop-automaton-preserved c =
    units_more c.args.reserved.now c.args.reserved.now.units.items c.loop-automaton.automaton-index _ c.cycles_of-cycles.result c.args.length c.loop-automaton.pairs.items c.push_unit.new.pairs.items
    (rw c.deref-automaton-items.ensures.value at c.loop-automaton-test.true) (rw c.deref-automaton-items.ensures.value at c.cycles_of-cycles.ensures) c.loop-automaton.invariant (rw c.deref-automaton-items.ensures.value at c.in_ok-push_unit.ensures)

pub loop-automaton-init : goal.loop-automaton-init
loop-automaton-init c = λ p. (
  λ m. absurd (Contains-nil p (subst (λ ps. Contains (pairs_of ps) p) c.new-pairs.ensures.items m)),
  λ o. absurd (no_units c.args.reserved.now c.args.length p o),
)

pub returns : goal.returns
returns c =
    let all = take_all c.loop-automaton.automaton-index c.args.reserved.now.units.items (rw c.deref-automaton-items.ensures.value at c.loop-automaton-test.false) in
    subst (λ (us : List (ℕ × ℕ)). (p : Pair UnitPlace) → Contains (pairs_of c.loop-automaton.pairs.items) p ↔ IsOfUnits c.args.reserved.now us c.args.length p) all c.loop-automaton.invariant
