-- Pairs count as a set: their order and repeats change nothing.
use Rattle.std.proofs.Common.{ℕ, List, ◌++◌, Contains, subst, arith, ⊎_elim}
use Rattle.std.proofs.Math.Nat.{max_comm}
use Rattle.std.proofs.lemmas.List.Elements.{Contains-append_left, Contains-append_right, Contains-append_cases}
use Rattle.hz_base_model.specs.Pairs.{Pair, SamePairs, later, placed}
use Rattle.hz_description_model.specs.Reservations.Alternatives.{Alternative, SameAs, beside}
use Rattle.hz_description_model.specs.Reservations.Sets.{Statement, Fits}
use Rattle.hz_base_model.proofs.Elements.{Contains-map, Contains-from_map}
use Rattle.hz_description_model.proofs.Reservations.FitLaws.{allows_same}

module _ {U : Type 0} where
  pub same_back : (xs ys : List (Pair U)) → SamePairs xs ys → SamePairs ys xs
  same_back xs ys h = λ p. ((h p).1, (h p).0)

  append_into : (xs ys xs' ys' : List (Pair U)) → SamePairs xs xs' → SamePairs ys ys' → (p : Pair U) → Contains (xs ++ ys) p → Contains (xs' ++ ys') p
  append_into xs ys xs' ys' h k p c = ⊎_elim
      (λ (l : Contains xs p). Contains-append_left xs' ys' p ((h p).0 l))
      (λ (r : Contains ys p). Contains-append_right xs' ys' p ((k p).0 r))
      (Contains-append_cases xs ys p c)

  pub same_append : (xs ys xs' ys' : List (Pair U)) → SamePairs xs xs' → SamePairs ys ys' → SamePairs (xs ++ ys) (xs' ++ ys')
  same_append xs ys xs' ys' h k = λ p. (append_into xs ys xs' ys' h k p, append_into xs' ys' xs ys (same_back xs xs' h) (same_back ys ys' k) p)

  placed_into : (n : ℕ) (xs ys : List (Pair U)) → SamePairs xs ys → (p : Pair U) → Contains (placed n xs) p → Contains (placed n ys) p
  placed_into n xs ys h p c =
      let found = Contains-from_map (later n) xs p c in
      subst (λ (q : Pair U). Contains (placed n ys) q) found.2 (Contains-map (later n) ys found.0 ((h found.0).0 found.1))

  pub same_placed : (n : ℕ) (xs ys : List (Pair U)) → SamePairs xs ys → SamePairs (placed n xs) (placed n ys)
  same_placed n xs ys h = λ p. (placed_into n xs ys h p, placed_into n ys xs (same_back xs ys h) p)

  -- fitting depends on the sets of pairs
  pub fits_same : (statements : List (Statement U)) (source source' pairs pairs' : List (Pair U)) (now : ℕ) → SamePairs source source' → SamePairs pairs pairs' → Fits statements source pairs now → Fits statements source' pairs' now
  fits_same statements source source' pairs pairs' now there here h =
      let added = same_placed now pairs pairs' here in
      let all = same_append source (placed now pairs) source' (placed now pairs') there added in
      record {
        apart = λ p x y. h.apart p ((there p).1 x) ((added p).1 y);
        allowed = λ s is cycle. allows_same s _ _ _ _ _ _
            (λ u. there (record { unit = u; cycle = cycle })) (λ u. added (record { unit = u; cycle = cycle })) (λ u. all (record { unit = u; cycle = cycle })) (h.allowed s is cycle);
      }

  pub append_swapped : (xs ys : List (Pair U)) (p : Pair U) → Contains (xs ++ ys) p → Contains (ys ++ xs) p
  append_swapped xs ys p c = ⊎_elim (Contains-append_right ys xs p) (Contains-append_left ys xs p) (Contains-append_cases xs ys p c)

  -- side by side, alternatives are in no order, and one beside itself is that one
  pub beside_swapped : (a b : Alternative U) → SameAs (beside a b) (beside b a)
  beside_swapped a b = record {
    pairs = λ p. (append_swapped a.pairs b.pairs p, append_swapped b.pairs a.pairs p);
    cycles = max_comm a.cycles b.cycles;
  }

  pub beside_itself : (a : Alternative U) → SameAs (beside a a) a
  beside_itself a = record {
    pairs = λ p. (λ c. ⊎_elim (λ l. l) (λ r. r) (Contains-append_cases a.pairs a.pairs p c), Contains-append_left a.pairs a.pairs p);
    cycles = omega arith;
  }
