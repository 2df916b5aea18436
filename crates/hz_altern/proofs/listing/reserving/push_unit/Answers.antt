use Rattle.std.proofs.Common.{◌≡◌, ◌+◌, ◌↔◌, ◌⊎◌, ℕ, List, Contains, ap, ◌∙◌, refl, sym, subst, arith, true≢false}
use Rattle.hz_base_model.specs.Pairs.{Pair}
use Rattle.hz_altern.specs.Reserved.{IsOfUnit}
use Rattle.hz_altern.specs.Shapes.{pairs_of}
use Rattle.hz_altern.specs.declared.alternative.Pair.{Pair as StoredPair}
use Rattle.hz_altern.proofs.ReserveLemmas.{unit_holds, unit_lacks, no_cycles}
use Rattle.hz_description_model.specs.Reservations.Automata.{UnitPlace}
use Rattle.hz_altern.proofs.listing.reserving.push_unit.Goals as goal
use Rattle.hz_altern.proofs.listing.reserving.push_unit.Goals.{then-holds+in_ok-push, else-holds}

pub loop-cycle-preserved : goal.loop-cycle-preserved
loop-cycle-preserved c =
    let old = c.args.pairs.now.items in
    let More : List StoredPair → Type 0 = λ pairs. (p : Pair UnitPlace) → Contains (pairs_of pairs) p ↔ (Contains (pairs_of old) p ⊎ IsOfUnit c.args.automaton c.args.unit c.args.cycles (c.loop-cycle.cycle + 1) p) in
    elim c.if-holds.branch [
      | then-holds+in_ok-push w ↦
          let has = c.holds.ensures.0 w.if-holds.true in
          subst More (sym (ap (λ v. v.items) w.pairs-is)) (unit_holds c.args.automaton c.args.unit c.args.cycles old c.loop-cycle.pairs.items c.loop-cycle.cycle c.loop-cycle.invariant w.push.new.self.items _ has refl w.in_ok-push.ensures.items)
      | else-holds w ↦
          subst More (sym (ap (λ v. v.items) w.pairs-is)) (unit_lacks c.args.automaton c.args.unit c.args.cycles old c.loop-cycle.pairs.items c.loop-cycle.cycle c.loop-cycle.invariant (λ has. true≢false (sym (c.holds.ensures.1 has) ∙ w.if-holds.false)))
    ]

pub loop-cycle-init : goal.loop-cycle-init
loop-cycle-init c = no_cycles c.args.automaton c.args.unit c.args.cycles c.args.pairs.now.items

pub returns : goal.returns
returns c =
    let all : c.loop-cycle.cycle ≡ c.args.length = omega (arith, c.loop-cycle-test.false, c.loop-cycle.auto.cycle-end) in
    subst (λ (n : ℕ). (p : Pair UnitPlace) → Contains (pairs_of c.loop-cycle.pairs.items) p ↔ (Contains (pairs_of c.args.pairs.now.items) p ⊎ IsOfUnit c.args.automaton c.args.unit c.args.cycles n p)) all c.loop-cycle.invariant
