-- Pairs of a unit and a cycle in the order of cycles and then of units.
use Rattle.std.proofs.Common.{Ordering, ◌≡◌, ◌↔◌, ℕ, Bool, true, ◌&&◌, ◌==◌, List, [], ◌∷◌, map, Contains, sym, subst, arith, IsTrue, ap}
use Rattle.std.specs.List.{AllPairs, dedup}
use Rattle.std.specs.List.Retain.{IsFiltered, DiffersFromLast}
use Rattle.std.specs.List.Sorted.{IsPermutation, IsSorted, IsStrictlySortedBy}
use Rattle.std.specs.Cmp.{IsTotalOrder, IsEquivalence, nat_eq_equiv, on_equiv, and_equiv}
use Rattle.std.specs.Ordering.{nat_cmp, ordering_then, eq_by_cmp, is_lt}
use Rattle.std.specs.declared.cmp.Ordering.TheVariants.{Less}
use Rattle.std.proofs.lemmas.Bool.{eqb-true, and_parts}
use Rattle.std.proofs.lemmas.Bool.Decides.{nat_tests}
use Rattle.std.proofs.lemmas.Cmp.{nat_cmp_total, on_total, then_total}
use Rattle.std.proofs.lemmas.List.Elements.{All-from_recursion}
use Rattle.std.proofs.lemmas.List.Filters.{dedup_is}
use Rattle.std.proofs.lemmas.List.Kept.{AllPairs-cons, Contains-dedup, Contains-from_dedup, IsStrictlySortedBy-dedup}
use Rattle.std.proofs.lemmas.List.Sorted.{Contains-permutation, IsPermutation-sym}
use Rattle.hz_altern.specs.Cuts.{within_pair, within_pairs}
use Rattle.hz_base_model.proofs.Ascending.{AllPairs-map}
use Rattle.hz_base_model.specs.Pairs.{precedes_by, IsAscendingBy}

-- by cycle, then by unit
abbrev pub by_cycle : ℕ × ℕ → ℕ × ℕ → Ordering
by_cycle x y = ordering_then (nat_cmp x.1 y.1) (nat_cmp x.0 y.0)

-- equal units and equal cycles
abbrev pub same : ℕ × ℕ → ℕ × ℕ → Bool
same x y = x.0 == y.0 && x.1 == y.1

by_cycle_total : IsTotalOrder by_cycle
by_cycle_total = then_total (on_total (λ (p : ℕ × ℕ). p.1) nat_cmp_total) (on_total (λ (p : ℕ × ℕ). p.0) nat_cmp_total)

pub same_equiv : IsEquivalence same
same_equiv = and_equiv (on_equiv (λ (p : ℕ × ℕ). p.0) nat_eq_equiv) (on_equiv (λ (p : ℕ × ℕ). p.1) nat_eq_equiv)

ties : (x y : ℕ × ℕ) → same x y ≡ eq_by_cmp by_cycle x y
ties x y = grind (arith, nat_tests)

below_precedes : (x y : ℕ × ℕ) → by_cycle x y ≡ Less → IsTrue (precedes_by nat_cmp (within_pair x) (within_pair y))
below_precedes x y e = ap is_lt e

pub same_is : (x y : ℕ × ℕ) → same x y ≡ true → x ≡ y
same_is x y e =
    let parts = and_parts (x.0 == y.0) (x.1 == y.1) e in
    λ i. (eqb-true x.0 y.0 parts.0 i, eqb-true x.1 y.1 parts.1 i)

pairs_below : {K : Type 0} (c : K → K → Ordering) (ks : List K) → IsStrictlySortedBy c ks → AllPairs (λ x y. c x y ≡ Less) ks
unfolding IsStrictlySortedBy
pairs_below c [] h = λ i j d low within. absurd (omega arith)
pairs_below c (k ∷ ks) h = AllPairs-cons (λ x y. c x y ≡ Less) k ks (All-from_recursion (λ y. c k y ≡ Less) ks h.0) (pairs_below c ks h.1)

-- Items that are sorted, of which each equal to the one before it is dropped.
module _ {X : Type 0} (c : X → X → Ordering) (same : X → X → Bool) (total : IsTotalOrder c) (tie : (x y : X) → same x y ≡ eq_by_cmp c x y) (old sorted new : List X) (moved : IsPermutation old sorted) (filtered : IsFiltered (DiffersFromLast same) [] sorted new) where
  left : new ≡ dedup same sorted
  left = dedup_is same sorted new filtered

  pub sorted_stand : {Y : Type 0} (R : Y → Y → Type 0) (f : X → Y) → ((x y : X) → c x y ≡ Less → R (f x) (f y)) → X → IsSorted c sorted → AllPairs R (map f new)
  sorted_stand R f below d up = AllPairs-map (λ x y. c x y ≡ Less) R f below d new (pairs_below c new (subst (IsStrictlySortedBy c) (sym left) (IsStrictlySortedBy-dedup total tie sorted up)))

  pub sorted_same : IsEquivalence same → ((x y : X) → same x y ≡ true → x ≡ y) → (x : X) → Contains new x ↔ Contains old x
  sorted_same equiv is x = (
    λ h. Contains-permutation sorted old x (IsPermutation-sym old sorted moved) (Contains-from_dedup same sorted x (subst (λ (xs : List X). Contains xs x) left h)),
    λ h. subst (λ (xs : List X). Contains xs x) (sym left) (Contains-dedup equiv is sorted x (Contains-permutation old sorted x moved h)),
  )

module _ (old sorted new : List (ℕ × ℕ)) (moved : IsPermutation old sorted) (filtered : IsFiltered (DiffersFromLast same) [] sorted new) where
  pub stand_in_order : IsSorted by_cycle sorted → IsAscendingBy nat_cmp (within_pairs new)
  stand_in_order = sorted_stand by_cycle same by_cycle_total ties old sorted new moved filtered (λ p q. IsTrue (precedes_by nat_cmp p q)) within_pair below_precedes (0, 0)

  pub same_pairs : (pair : ℕ × ℕ) → Contains new pair ↔ Contains old pair
  same_pairs = sorted_same by_cycle same by_cycle_total ties old sorted new moved filtered same_equiv same_is
