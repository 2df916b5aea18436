-- The lists of classes have columns, whatever they are.
use Rattle.std.proofs.Common.{◌≡◌, ◌≢◌, ℕ, ◌+◌, ◌<◌, ◌≤◌, ◌⊎◌, inl, inr, ⊎_elim, List, [], ◌∷◌, ◌++◌, length, get_or, slice_get, Some, Contains, refl, sym, ap, ◌∙◌, subst, append_assoc, arith}
use Rattle.std.specs.Prelude.{slice_index, slice_index_or}
use Rattle.std.specs.List.{AllPairs}
use Rattle.std.proofs.lemmas.Bool.{cases_lt}
use Rattle.std.proofs.lemmas.List.{append-nil, get_or_append_left, length_push}
use Rattle.std.proofs.lemmas.Option.{slice_get_within, slice_get-get_or, get_or_from_slice_get}
use Rattle.std.proofs.lemmas.Slice.Eq.{slice_eq-Decides}
use Rattle.std.proofs.Math.Seq.{get_or-append_seam}
use Rattle.hz_base_model.specs.Pairs.{Pair}
use Rattle.hz_base_model.proofs.Ascending.{AllPairs-append}
use Rattle.hz_base_model.proofs.Elements.{Contains-nil, Contains-cons_cases}
use Rattle.hz_pipeline_model.specs.Compiling.ClassColumns.{IsColumns}
use Rattle.hz_pipeline_model.specs.Compiling.CompiledParts.{HasColumns}
use Rattle.hz_pipeline_model.proofs.Decidable.DecidedLaws.{IsDecided, some_reported}
use Rattle.hz_laws.proofs.Leaving.ListingLaws.{reported_by}
use Rattle.hz_base_model.proofs.PairOrder.{grid_eq-Decides}

abbrev ClassLists : Type 0
ClassLists = List (List (List (Pair ℕ)))

same_list_reported : (xs ys : List (List (Pair ℕ))) → IsDecided (xs ≡ ys)
same_list_reported xs ys = reported_by _ (slice_eq-Decides grid_eq-Decides xs ys _ refl)

module _ {X : Type 0} (xs : List X) (x : X) where
  -- the items before one more, and that one
  before : (d : X) (k : ℕ) → k < length xs → get_or (xs ++ x ∷ []) k d ≡ get_or xs k d
  before d k low = get_or_append_left xs (x ∷ []) d k low

  last : (d : X) (k : ℕ) → k ≡ length xs → get_or (xs ++ x ∷ []) k d ≡ x
  last d k same = ap (λ n. get_or (xs ++ x ∷ []) n d) same ∙ get_or-append_seam xs x [] d

-- The columns that a class more leaves, and the column of its list.
record IsGrown (columns : ClassLists) (list : List (List (Pair ℕ))) (column : ℕ) (new : ClassLists) : Type 0 where
  stays : (k : ℕ) (x : List (List (Pair ℕ))) → slice_get columns k ≡ Some x → slice_get new k ≡ Some x
  there : slice_get new column ≡ Some list
  different : AllPairs (λ x y. x ≢ y) new
  old_or_last : (k : ℕ) → k < length new → (k < length columns) ⊎ ((k ≡ length columns) × (column ≡ k))

module _ (lists columns : ClassLists) (map : List ℕ) (is : IsColumns lists columns map) (list : List (List (Pair ℕ))) where
  columns_more : (column : ℕ) (new : ClassLists) → IsGrown columns list column new → IsColumns (lists ++ list ∷ []) new (map ++ column ∷ [])
  columns_more column new grown = record {
    each = length_push map column ∙ (ap (λ n. n + 1) is.each ∙ sym (length_push lists list));
    there = there;
    different = grown.different;
    first = first;
  }
    where
      mapped : (k : ℕ) → k < length lists → slice_index (map ++ column ∷ []) k ≡ slice_index map k
      mapped k low = before map column 0 k (omega (arith, low, is.each))

      there : (k : ℕ) → k < length (lists ++ list ∷ []) → slice_get new (slice_index (map ++ column ∷ []) k) ≡ Some (slice_index_or (lists ++ list ∷ []) k [])
      there k low = ⊎_elim
          (λ (here : k < length lists).
          ap (slice_get new) (mapped k here) ∙ (grown.stays (slice_index map k) (slice_index_or lists k []) (is.there k here) ∙ ap Some (sym (before lists list [] k here))))
          (λ (past : length lists ≤ k).
          let same : k ≡ length lists = omega (arith, low, past, length_push lists list) in
          ap (slice_get new) (last map column 0 k (omega (arith, same, is.each))) ∙ (grown.there ∙ ap Some (sym (last lists list [] k same))))
          (cases_lt k (length lists))

      first : (c : ℕ) → c < length new → (k : ℕ) × (k < length (lists ++ list ∷ [])) × (slice_index (map ++ column ∷ []) k ≡ c) × ((j : ℕ) → j < k → slice_index (map ++ column ∷ []) j < c)
      first c low = ⊎_elim
          (λ (here : c < length columns).
          let class = is.first c here in
          let within = class.1 in (
            class.0,
            omega (arith, within, length_push lists list),
            mapped class.0 within ∙ class.2,
            λ j earlier. subst (λ n. n < c) (sym (mapped j (omega (arith, earlier, within)))) (class.3 j earlier),
          ))
          (λ (end : (c ≡ length columns) × (column ≡ c)). (
            length lists,
            omega (arith, length_push lists list),
            last map column 0 (length lists) (sym is.each) ∙ end.1,
            λ j earlier.
                let lower = slice_get_within columns (slice_index map j) (slice_index_or lists j []) (is.there j earlier) in
                subst (λ n. n < c) (sym (mapped j earlier)) (omega (arith, lower, end.0)),
          ))
          (grown.old_or_last c low)

  -- its list is a column already
  grown_by_none : (k : ℕ) → k < length columns → get_or columns k list ≡ list → IsGrown columns list k columns
  grown_by_none k low at = record {
    stays = λ j x here. here;
    there = slice_get-get_or columns k list low ∙ ap Some at;
    different = is.different;
    old_or_last = λ j within. inl within;
  }

  -- or is not yet
  grown_by_one : (Contains columns list → ⊥) → IsGrown columns list (length columns) (columns ++ list ∷ [])
  grown_by_one none = record {
    stays = λ k x here.
        let low = slice_get_within columns k x here in
        slice_get-get_or (columns ++ list ∷ []) k x (omega (arith, low, length_push columns list)) ∙ ap Some (before columns list x k low ∙ get_or_from_slice_get columns k x x here);
    there = slice_get-get_or (columns ++ list ∷ []) (length columns) list (omega (arith, length_push columns list)) ∙ ap Some (last columns list list (length columns) refl);
    different = AllPairs-append (λ x y. x ≢ y) columns (list ∷ []) is.different (λ i j d low within. absurd (omega arith))
        (λ x y there also same. ⊎_elim
        (λ (e : list ≡ y). none (subst (Contains columns) (same ∙ sym e) there))
        (λ past. Contains-nil y past)
        (Contains-cons_cases list y [] also));
    old_or_last = λ k within. ⊎_elim
        inl
        (λ (past : length columns ≤ k). let same : k ≡ length columns = omega (arith, within, past, length_push columns list) in inr (same, sym same))
        (cases_lt k (length columns));
  }

  one_more : (new : ClassLists) × (more : List ℕ) × IsColumns (lists ++ list ∷ []) new more
  one_more = ⊎_elim
      (λ (found : (x : List (List (Pair ℕ))) × Contains columns x × (x ≡ list)).
      let (k, low, at) = subst (Contains columns) found.2 found.1 in
      (columns, map ++ k ∷ [], columns_more k columns (grown_by_none k low at)))
      (λ (none : (x : List (List (Pair ℕ))) → Contains columns x → x ≡ list → ⊥).
      (columns ++ list ∷ [], map ++ length columns ∷ [], columns_more (length columns) (columns ++ list ∷ []) (grown_by_one (λ there. none list there refl))))
      (some_reported (λ x. x ≡ list) (λ x. same_list_reported x list) columns)

abbrev HasSomeColumns : ClassLists → Type 0
HasSomeColumns lists = (columns : ClassLists) × (map : List ℕ) × IsColumns lists columns map

columns_of : (done todo : ClassLists) → HasSomeColumns done → HasSomeColumns (done ++ todo)
columns_of done [] (columns, map, is) = subst HasSomeColumns (sym (append-nil done)) (columns, map, is)
columns_of done (list ∷ todo) (columns, map, is) =
    subst HasSomeColumns (append_assoc done (list ∷ []) todo)
    (columns_of (done ++ list ∷ []) todo (one_more done columns map is list))

no_columns : IsColumns [] [] []
no_columns = record {
  each = refl;
  there = λ k low. absurd (omega (arith, low));
  different = λ i j d low high. absurd (omega (arith, high));
  first = λ column low. absurd (omega (arith, low));
}

pub some_columns : (lists : ClassLists) → (n : ℕ) × HasColumns lists n
some_columns lists =
    let (columns, map, is) = columns_of [] lists ([], [], no_columns) in
    (length columns, (columns, map, is, refl))
