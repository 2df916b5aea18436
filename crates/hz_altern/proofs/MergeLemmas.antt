-- Two ascending lists of pairs, merged pair by pair.
use Rattle.std.proofs.Common.{◌≡◌, ⊎_elim, List, [], ◌∷◌, ◌++◌, length, All, Contains, refl, sym, ap, ◌∙◌, subst, arith}
use Rattle.std.proofs.lemmas.List.Elements.{All-contains, All-nil, Contains-get_or, Contains-append_left, Contains-append_right, Contains-append_cases}
use Rattle.hz_base_model.specs.Pairs.{Pair}
use Rattle.hz_description_model.specs.Reservations.Automata.{UnitPlace, ascending}
use Rattle.hz_description_model.specs.Reservations.AlternativeLists.{IsAscending}
use Rattle.hz_base_model.proofs.Elements.{Contains-head, Contains-tail, Contains-cons_cases}
use Rattle.hz_base_model.proofs.Ascending.{AllPairs-head, AllPairs-tail}
use Rattle.hz_description_model.proofs.Reservations.SamePairsLaws.{append_swapped}
use Rattle.hz_description_model.proofs.Reservations.AscendingLaws.{Precedes, Precedes_transitive, ascending_same, Contains-from_ascending, with_pair_least}
use Rattle.hz_altern.specs.Merging.{IsLeast}
use Rattle.hz_altern.specs.declared.alternative.Pair.{Pair as StoredPair}
use Rattle.hz_altern.specs.Shapes.{pair_of, pairs_of}

-- what comes after p in both lists comes after p in the list of both
after_both : (p : Pair UnitPlace) (xs ys : List (Pair UnitPlace)) → All (Precedes p) xs → All (Precedes p) ys → All (Precedes p) (ascending (xs ++ ys))
after_both p xs ys h k i d lt =
    ⊎_elim (All-contains (Precedes p) xs _ h) (All-contains (Precedes p) ys _ k)
    (Contains-append_cases xs ys _ (Contains-from_ascending _ (xs ++ ys) (Contains-get_or (ascending (xs ++ ys)) i d lt)))

first_least : (x : Pair UnitPlace) (xs ys : List (Pair UnitPlace)) → All (Precedes x) xs → All (Precedes x) ys → ascending ((x ∷ xs) ++ ys) ≡ x ∷ ascending (xs ++ ys)
first_least x xs ys h k = with_pair_least x (ascending (xs ++ ys)) (after_both x xs ys h k)

pub swapped : (xs ys : List (Pair UnitPlace)) → ascending (xs ++ ys) ≡ ascending (ys ++ xs)
swapped xs ys = ascending_same (xs ++ ys) (ys ++ xs) (λ p. (append_swapped xs ys p, append_swapped ys xs p))

-- all of a list come after a pair that stands before its first
after_first : (x y : Pair UnitPlace) (ys : List (Pair UnitPlace)) → Precedes x y → IsAscending (y ∷ ys) → All (Precedes x) (y ∷ ys)
after_first x y ys lt up i d within =
    ⊎_elim
    (λ (e : y ≡ _). subst (λ (z : Pair UnitPlace). Precedes x z) e lt)
    (λ (m : Contains ys _). Precedes_transitive x y _ lt (All-contains (Precedes y) ys _ (AllPairs-head Precedes y ys up) m))
    (Contains-cons_cases y _ ys (Contains-get_or (y ∷ ys) i d within))

pub nothing_after : IsAscending []
nothing_after = λ i j d lt within. absurd (omega arith)

pub least_of_first : (x : Pair UnitPlace) (xs : List (Pair UnitPlace)) → IsAscending (x ∷ xs) → IsLeast (x ∷ xs) [] x xs []
least_of_first x xs up = record {
  least_first = first_least x xs [] (AllPairs-head Precedes x xs up) (All-nil (Precedes x));
  firsts_ascend = AllPairs-tail Precedes x xs up;
  seconds_ascend = nothing_after;
  fewer = omega arith;
}

pub least_of_second : (y : Pair UnitPlace) (ys : List (Pair UnitPlace)) → IsAscending (y ∷ ys) → IsLeast [] (y ∷ ys) y [] ys
least_of_second y ys up = record {
  least_first = with_pair_least y (ascending ys) (after_both y [] ys (All-nil (Precedes y)) (AllPairs-head Precedes y ys up));
  firsts_ascend = nothing_after;
  seconds_ascend = AllPairs-tail Precedes y ys up;
  fewer = omega arith;
}

module _ (x y : Pair UnitPlace) (xs ys : List (Pair UnitPlace)) (up : IsAscending (x ∷ xs)) (down : IsAscending (y ∷ ys)) where
  pub least_one : Precedes x y → IsLeast (x ∷ xs) (y ∷ ys) x xs (y ∷ ys)
  least_one lt = record {
    least_first = first_least x xs (y ∷ ys) (AllPairs-head Precedes x xs up) (after_first x y ys lt down);
    firsts_ascend = AllPairs-tail Precedes x xs up;
    seconds_ascend = down;
    fewer = omega arith;
  }

  pub least_other : Precedes y x → IsLeast (x ∷ xs) (y ∷ ys) y (x ∷ xs) ys
  least_other lt = record {
    least_first = swapped (x ∷ xs) (y ∷ ys) ∙ (first_least y ys (x ∷ xs) (AllPairs-head Precedes y ys down) (after_first y x xs lt up) ∙ ap (λ zs. y ∷ zs) (swapped ys (x ∷ xs)));
    firsts_ascend = up;
    seconds_ascend = AllPairs-tail Precedes y ys down;
    fewer = omega arith;
  }

  pub least_both : x ≡ y → IsLeast (x ∷ xs) (y ∷ ys) x xs ys
  least_both e = record {
    least_first = ascending_same ((x ∷ xs) ++ (y ∷ ys)) ((x ∷ xs) ++ ys) (λ p. (once p, twice p)) ∙ first_least x xs ys (AllPairs-head Precedes x xs up) (subst (λ (z : Pair UnitPlace). All (Precedes z) ys) (sym e) (AllPairs-head Precedes y ys down));
    firsts_ascend = AllPairs-tail Precedes x xs up;
    seconds_ascend = AllPairs-tail Precedes y ys down;
    fewer = omega arith;
  }
    where
      once : (p : Pair UnitPlace) → Contains ((x ∷ xs) ++ (y ∷ ys)) p → Contains ((x ∷ xs) ++ ys) p
      once p h = ⊎_elim
          (Contains-append_left (x ∷ xs) ys p)
          (λ (k : Contains (y ∷ ys) p). ⊎_elim
          (λ (f : y ≡ p). subst (λ (z : Pair UnitPlace). Contains ((x ∷ xs) ++ ys) z) (e ∙ f) (Contains-head x (xs ++ ys)))
          (Contains-append_right (x ∷ xs) ys p)
          (Contains-cons_cases y p ys k))
          (Contains-append_cases (x ∷ xs) (y ∷ ys) p h)

      twice : (p : Pair UnitPlace) → Contains ((x ∷ xs) ++ ys) p → Contains ((x ∷ xs) ++ (y ∷ ys)) p
      twice p h = ⊎_elim
          (Contains-append_left (x ∷ xs) (y ∷ ys) p)
          (λ (k : Contains ys p). Contains-append_right (x ∷ xs) (y ∷ ys) p (Contains-tail y p ys k))
          (Contains-append_cases (x ∷ xs) ys p h)

-- ---- slices of the code

empty_slice : (xs : List StoredPair) → length xs ≡ 0 → xs ≡ []
empty_slice [] h = refl
empty_slice (x ∷ xs) h = absurd (omega arith)

-- two slices that ascend, the second of them empty
pub slice_of_first : (first second : List StoredPair) (x : StoredPair) (xs : List StoredPair) → first ≡ x ∷ xs → length second ≡ 0 → IsAscending (pairs_of first) → IsLeast (pairs_of first) (pairs_of second) (pair_of x) (pairs_of xs) (pairs_of second)
slice_of_first first second x xs is none up =
    subst (λ ss. IsLeast (pairs_of first) (pairs_of ss) (pair_of x) (pairs_of xs) (pairs_of ss)) (sym (empty_slice second none))
    (subst (λ fs. IsLeast (pairs_of fs) [] (pair_of x) (pairs_of xs) []) (sym is) (least_of_first (pair_of x) (pairs_of xs) (subst (λ fs. IsAscending (pairs_of fs)) is up)))

-- the first of them empty
pub slice_of_second : (first second : List StoredPair) (y : StoredPair) (ys : List StoredPair) → length first ≡ 0 → second ≡ y ∷ ys → IsAscending (pairs_of second) → IsLeast (pairs_of first) (pairs_of second) (pair_of y) (pairs_of first) (pairs_of ys)
slice_of_second first second y ys none is up =
    subst (λ fs. IsLeast (pairs_of fs) (pairs_of second) (pair_of y) (pairs_of fs) (pairs_of ys)) (sym (empty_slice first none))
    (subst (λ ss. IsLeast [] (pairs_of ss) (pair_of y) [] (pairs_of ys)) (sym is) (least_of_second (pair_of y) (pairs_of ys) (subst (λ ss. IsAscending (pairs_of ss)) is up)))

-- none of them empty
pub slices : (first second : List StoredPair) (x y : StoredPair) (xs ys : List StoredPair) → first ≡ x ∷ xs → second ≡ y ∷ ys → IsAscending (pairs_of first) → IsAscending (pairs_of second) → (P : List (Pair UnitPlace) → List (Pair UnitPlace) → Type 0) → (IsAscending (pairs_of (x ∷ xs)) → IsAscending (pairs_of (y ∷ ys)) → P (pairs_of (x ∷ xs)) (pairs_of (y ∷ ys))) → P (pairs_of first) (pairs_of second)
slices first second x y xs ys is_first is_second up down P holds =
    subst (λ fs. P (pairs_of fs) (pairs_of second)) (sym is_first)
    (subst (λ ss. P (pairs_of (x ∷ xs)) (pairs_of ss)) (sym is_second)
    (holds (subst (λ fs. IsAscending (pairs_of fs)) is_first up) (subst (λ ss. IsAscending (pairs_of ss)) is_second down)))
