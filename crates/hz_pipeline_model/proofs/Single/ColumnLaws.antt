-- There is one map of columns for lists: columns are numbered by the first class of each.
use Rattle.std.proofs.Common.{◌≡◌, ◌≢◌, ◌⊎◌, inl, inr, ℕ, zero, suc, ◌<◌, List, [], length, slice_get, Some, sym, ap, ◌∙◌, arith}
use Rattle.std.specs.Prelude.{slice_index, slice_index_or}
use Rattle.std.specs.List.{AllPairs}
use Rattle.std.proofs.lemmas.Bool.{cases_order}
use Rattle.std.proofs.lemmas.List.{ext_get_or}
use Rattle.std.proofs.lemmas.Option.{slice_get_within, get_or_from_slice_get}
use Rattle.hz_base_model.specs.Pairs.{Pair}
use Rattle.hz_pipeline_model.specs.Compiling.ClassColumns.{IsColumns}

-- in a list of different items one item stands at one place
place_one : {X : Type 0} (xs : List X) → AllPairs (λ x y. x ≢ y) xs → (i j : ℕ) (x : X) → slice_get xs i ≡ Some x → slice_get xs j ≡ Some x → i ≡ j
place_one xs different i j x here there = by_order (cases_order i j)
  where
    same : slice_index_or xs i x ≡ slice_index_or xs j x
    same = get_or_from_slice_get xs i x x here ∙ sym (get_or_from_slice_get xs j x x there)

    by_order : (i ≡ j) ⊎ ((i < j) ⊎ (j < i)) → i ≡ j
    by_order (inl e) = e
    by_order (inr (inl less)) = absurd (different i j x less (slice_get_within xs j x there) same)
    by_order (inr (inr more)) = absurd (different j i x more (slice_get_within xs i x here) (sym same))

module _ (lists : List (List (List (Pair ℕ)))) where
  -- classes that share a column share it in any other map
  shared_also : (columns others : List (List (List (Pair ℕ)))) (map marks : List ℕ) → IsColumns lists columns map → IsColumns lists others marks → (j k : ℕ) → j < length lists → k < length lists → slice_index map j ≡ slice_index map k → slice_index marks j ≡ slice_index marks k
  shared_also columns others map marks is also j k low low' same =
      let list = slice_index_or lists j [] in
      let here = is.there j low in
      let there = is.there k low' in
      let one : slice_index_or lists k [] ≡ list = let both = sym there ∙ (ap (slice_get columns) (sym same) ∙ here) in cc in
      place_one others also.different (slice_index marks j) (slice_index marks k) list (also.there j low) (also.there k low' ∙ ap Some one)

  -- where the classes before have the same columns in both, no class has a lower one in the first
  not_less : (columns others : List (List (List (Pair ℕ)))) (map marks : List ℕ) → IsColumns lists columns map → IsColumns lists others marks → (k : ℕ) → k < length lists → ((j : ℕ) → j < k → slice_index map j ≡ slice_index marks j) → slice_index map k < slice_index marks k → ⊥
  not_less columns others map marks is also k low before less = by_order (cases_order class.0 k)
    where
      inside : slice_index marks k < length others
      inside = slice_get_within others (slice_index marks k) (slice_index_or lists k []) (also.there k low)

      class : (f : ℕ) × (f < length lists) × (slice_index marks f ≡ slice_index map k) × ((j : ℕ) → j < f → slice_index marks j < slice_index map k)
      class = also.first (slice_index map k) (omega (arith, less, inside))

      by_order : (class.0 ≡ k) ⊎ ((class.0 < k) ⊎ (k < class.0)) → ⊥
      by_order (inl e) = omega (arith, ap (slice_index marks) e, class.2, less)
      by_order (inr (inl earlier)) =
          let same = shared_also columns others map marks is also class.0 k class.1 low (before class.0 earlier ∙ class.2) in
          omega (arith, same, class.2, less)
      by_order (inr (inr later)) = omega (arith, class.3 k later, less)

  module _ (columns others : List (List (List (Pair ℕ)))) (map marks : List ℕ) (is : IsColumns lists columns map) (also : IsColumns lists others marks) where
    column_next : (k : ℕ) → k < length lists → ((j : ℕ) → j < k → slice_index map j ≡ slice_index marks j) → slice_index map k ≡ slice_index marks k
    column_next k low before = by_order (cases_order (slice_index map k) (slice_index marks k))
      where
        by_order : (slice_index map k ≡ slice_index marks k) ⊎ ((slice_index map k < slice_index marks k) ⊎ (slice_index marks k < slice_index map k)) → slice_index map k ≡ slice_index marks k
        by_order (inl same) = same
        by_order (inr (inl less)) = absurd (not_less columns others map marks is also k low before less)
        by_order (inr (inr more)) = absurd (not_less others columns marks map also is k low (λ j earlier. sym (before j earlier)) more)

    column_below : (n k : ℕ) → k < n → k < length lists → slice_index map k ≡ slice_index marks k
    column_below zero k below low = absurd (omega (arith, below))
    column_below (suc n) k below low = column_next k low (λ j earlier. column_below n j (omega (arith, earlier, below)) (omega (arith, earlier, low)))

    pub one_map : map ≡ marks
    one_map = ext_get_or 0 map marks (is.each ∙ sym also.each)
        (λ k low. column_below (suc k) k (omega arith) (omega (arith, low, is.each)))
