-- Pairs in the order of cycles, automata and units.
use Rattle.std.proofs.Common.{Ordering, ◌≡◌, ◌↔◌, Bool, true, ◌&&◌, ◌==◌, List, [], Contains, subst, arith, refl, sym, ap, ◌∙◌}
use Rattle.std.specs.List.Retain.{IsFiltered, DiffersFromLast}
use Rattle.std.specs.List.Sorted.{IsPermutation, IsSorted}
use Rattle.std.specs.Cmp.{IsTotalOrder, IsEquivalence, nat_eq_equiv, on_equiv, and_equiv}
use Rattle.std.specs.Ordering.{nat_cmp, ordering_then, eq_by_cmp, is_lt}
use Rattle.std.specs.declared.cmp.Ordering.TheVariants.{Less, Equal, Greater}
use Rattle.std.proofs.lemmas.Bool.{eqb-true, and_parts}
use Rattle.std.proofs.lemmas.Bool.Decides.{nat_tests}
use Rattle.std.proofs.lemmas.Cmp.{nat_cmp_total, on_total, then_total}
use Rattle.hz_base_model.specs.Pairs.{Pair}
use Rattle.hz_base_model.proofs.Elements.{Contains-map, Contains-from_map}
use Rattle.hz_altern.specs.declared.alternative.Pair.{Pair as StoredPair}
use Rattle.hz_altern.specs.contracts.alternative.PairPartialEq.TheImpl.{eq-value}
use Rattle.hz_altern.specs.Shapes.{pair_of, pairs_of}
use Rattle.hz_altern.proofs.OrderLemmas.{sorted_stand, sorted_same}
use Rattle.hz_description_model.specs.Reservations.AlternativeLists.{IsAscending}
use Rattle.hz_description_model.specs.Reservations.Automata.{UnitPlace}
use Rattle.hz_description_model.proofs.Reservations.AscendingLaws.{Precedes}

-- by cycle, then by automaton, then by unit
abbrev pub by_place : StoredPair → StoredPair → Ordering
by_place x y = ordering_then (ordering_then (nat_cmp x.cycle y.cycle) (nat_cmp x.automaton y.automaton)) (nat_cmp x.unit y.unit)

-- equal in all
abbrev pub same_stored : StoredPair → StoredPair → Bool
same_stored = eq-value.it

by_place_total : IsTotalOrder by_place
by_place_total = then_total (then_total (on_total (λ (p : StoredPair). p.cycle) nat_cmp_total) (on_total (λ (p : StoredPair). p.automaton) nat_cmp_total)) (on_total (λ (p : StoredPair). p.unit) nat_cmp_total)

stored_equiv : IsEquivalence same_stored
stored_equiv = and_equiv (on_equiv (λ (p : StoredPair). p.automaton) nat_eq_equiv) (and_equiv (on_equiv (λ (p : StoredPair). p.unit) nat_eq_equiv) (on_equiv (λ (p : StoredPair). p.cycle) nat_eq_equiv))

stored_ties : (x y : StoredPair) → same_stored x y ≡ eq_by_cmp by_place x y
stored_ties x y = grind (arith, nat_tests)

then_then : (r s t : Ordering) → ordering_then (ordering_then r s) t ≡ ordering_then r (ordering_then s t)
then_then Less s t = refl
then_then Equal s t = refl
then_then Greater s t = refl

below_precedes : (x y : StoredPair) → by_place x y ≡ Less → Precedes (pair_of x) (pair_of y)
below_precedes x y e =
    ap is_lt (sym (then_then (nat_cmp x.cycle y.cycle) (nat_cmp x.automaton y.automaton) (nat_cmp x.unit y.unit)) ∙ e)

stored_is : (x y : StoredPair) → same_stored x y ≡ true → x ≡ y
stored_is x y e =
    let first = and_parts (x.automaton == y.automaton) (x.unit == y.unit && x.cycle == y.cycle) e in
    let rest = and_parts (x.unit == y.unit) (x.cycle == y.cycle) first.1 in
    λ i. record { automaton = eqb-true x.automaton y.automaton first.0 i; unit = eqb-true x.unit y.unit rest.0 i; cycle = eqb-true x.cycle y.cycle rest.1 i }

module _ (old sorted new : List StoredPair) (moved : IsPermutation old sorted) (filtered : IsFiltered (DiffersFromLast same_stored) [] sorted new) where
  pub stand_ascending : IsSorted by_place sorted → IsAscending (pairs_of new)
  stand_ascending = sorted_stand by_place same_stored by_place_total stored_ties old sorted new moved filtered Precedes pair_of below_precedes (record { automaton = 0; unit = 0; cycle = 0 })

  pub same_set : (p : Pair UnitPlace) → Contains (pairs_of new) p ↔ Contains (pairs_of old) p
  same_set p = (over new old (λ x. (each x).0), over old new (λ x. (each x).1))
    where
      each : (x : StoredPair) → Contains new x ↔ Contains old x
      each = sorted_same by_place same_stored by_place_total stored_ties old sorted new moved filtered stored_equiv stored_is

      over : (xs ys : List StoredPair) → ((x : StoredPair) → Contains xs x → Contains ys x) → Contains (pairs_of xs) p → Contains (pairs_of ys) p
      over xs ys more c = let from = Contains-from_map pair_of xs p c in subst (Contains (pairs_of ys)) from.2 (Contains-map pair_of ys from.0 (more from.0 from.1))
