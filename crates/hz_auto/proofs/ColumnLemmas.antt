-- The columns of classes, one class after another.
use Rattle.std.proofs.Common.{inl, inr, ◌≡◌, ◌⊎◌, ℕ, ◌+◌, ◌<◌, ◌≤◌, List, [], ◌∷◌, ◌++◌, length, get_or, slice_get, Some, Contains, refl, sym, ap, ◌∙◌, subst, arith, ⊎_elim}
use Rattle.std.specs.Prelude.{slice_index, slice_index_or, Bool, true, false, if◌then◌else◌}
use Rattle.std.specs.Bool.{Decides}
use Rattle.std.specs.Cmp.{IsEquivalence}
use Rattle.std.proofs.lemmas.Map.Views.{list_any-from_Contains}
use Rattle.std.specs.List.{sum_by, list_any}
use Rattle.std.proofs.lemmas.Bool.{cases_lt}
use Rattle.std.proofs.lemmas.List.{get_or_append_left, length_push}
use Rattle.std.proofs.Math.Seq.{get_or-append_seam}
use Rattle.std.proofs.lemmas.List.Elements.{Contains-get_or}
use Rattle.std.proofs.lemmas.Option.{slice_get_within, slice_get-get_or, get_or_from_slice_get}
use Rattle.hz_base_model.specs.Pairs.{Pair}
use Rattle.hz_pipeline_model.proofs.Reaching.CountLaws.{weighs, sum_by_ones}
use Rattle.hz_states.specs.Interned.{IsAdded}
use Rattle.hz_states.proofs.Adding.{different_added}
use Rattle.hz_pipeline_model.specs.Compiling.ClassColumns.{IsColumns}

abbrev Lists : Type 0
Lists = List (List (List (Pair ℕ)))

-- no class has no column
pub no_columns : IsColumns [] [] []
no_columns = record {
  each = refl;
  there = λ k low. absurd (omega (arith, low));
  different = λ i j d low high. absurd (omega (arith, high));
  first = λ column low. absurd (omega (arith, low));
}

-- the k-th of items after which one more stands
before : {X : Type 0} (xs : List X) (x d : X) (k : ℕ) → k < length xs → get_or (xs ++ x ∷ []) k d ≡ get_or xs k d
before xs x d k low = get_or_append_left xs (x ∷ []) d k low

-- the last of them
last : {X : Type 0} (xs : List X) (x d : X) (k : ℕ) → k ≡ length xs → get_or (xs ++ x ∷ []) k d ≡ x
last xs x d k e = ap (λ n. get_or (xs ++ x ∷ []) n d) e ∙ get_or-append_seam xs x [] d

-- what stood at a place stands there still
stays : {X : Type 0} (old : List X) (item : X) (id : ℕ) (new : List X) → IsAdded old item id new → (k : ℕ) (x : X) → slice_get old k ≡ Some x → slice_get new k ≡ Some x
stays old item id new added k x e = ⊎_elim
    (λ (same : new ≡ old). ap (λ xs. slice_get xs k) same ∙ e)
    (λ (more : (Contains old item → ⊥) × (new ≡ old ++ item ∷ [])).
    let low = slice_get_within old k x e in
    let long = length_push old item in
    ap (λ xs. slice_get xs k) more.1 ∙ (slice_get-get_or (old ++ item ∷ []) k x (omega (arith, low, long)) ∙ ap Some (before old item x k low ∙ get_or_from_slice_get old k x x e)))
    added.grown

-- A place is an old one, or the last, which has the new item.
old_or_last : {X : Type 0} (old : List X) (item : X) (id : ℕ) (new : List X) → IsAdded old item id new → (k : ℕ) → k < length new → (k < length old) ⊎ ((k ≡ length old) × (id ≡ k))
old_or_last old item id new added k low = ⊎_elim
    (λ (same : new ≡ old). inl (omega (arith, low, ap length same)))
    (λ (more : (Contains old item → ⊥) × (new ≡ old ++ item ∷ [])).
    let long = length_push old item in
    let all = ap length more.1 in
    ⊎_elim
    (λ (here : k < length old). inl here)
    (λ (past : length old ≤ k). ⊎_elim
    (λ (early : id < length old). absurd (more.0 (subst (Contains old) (sym (before old item item id early) ∙ (ap (λ xs. get_or xs id item) (sym more.1) ∙ get_or_from_slice_get new id item item added.there)) (Contains-get_or old id item early))))
    (λ (late : length old ≤ id). let within = added.within in inr (omega (arith, low, past, long, all), omega (arith, low, past, late, within, long, all)))
    (cases_lt id (length old)))
    (cases_lt k (length old)))
    added.grown

-- one more class takes the column of its list
pub columns_pushed : (lists columns : Lists) (maps : List ℕ) → IsColumns lists columns maps → (list : List (List (Pair ℕ))) (id : ℕ) (new : Lists) → IsAdded columns list id new → IsColumns (lists ++ list ∷ []) new (maps ++ id ∷ [])
columns_pushed lists columns maps is list id new added = record {
  each = length_push maps id ∙ (ap (λ n. n + 1) is.each ∙ sym (length_push lists list));
  there = there;
  different = different_added columns list id new is.different added;
  first = first;
}
  where
    low_of : (k : ℕ) → k < length lists → k < length maps
    low_of k low = let each = is.each in omega (arith, low, each)

    there : (k : ℕ) → k < length (lists ++ list ∷ []) → slice_get new (slice_index (maps ++ id ∷ []) k) ≡ Some (slice_index_or (lists ++ list ∷ []) k [])
    there k low = ⊎_elim
        (λ (here : k < length lists).
        ap (slice_get new) (before maps id 0 k (low_of k here))
        ∙ (stays columns list id new added (slice_index maps k) (slice_index_or lists k []) (is.there k here)
        ∙ ap Some (sym (before lists list [] k here))))
        (λ (past : length lists ≤ k).
        let long = length_push lists list in
        let each = is.each in
        let same : k ≡ length lists = omega (arith, low, past, long) in
        ap (slice_get new) (last maps id 0 k (omega (arith, same, each))) ∙ (added.there ∙ ap Some (sym (last lists list [] k same))))
        (cases_lt k (length lists))

    below : (j : ℕ) → j < length lists → slice_index maps j < length columns
    below j low = slice_get_within columns (slice_index maps j) (slice_index_or lists j []) (is.there j low)

    first : (column : ℕ) → column < length new → (k : ℕ) × (k < length (lists ++ list ∷ [])) × (slice_index (maps ++ id ∷ []) k ≡ column) × ((j : ℕ) → j < k → slice_index (maps ++ id ∷ []) j < column)
    first column low = ⊎_elim
        (λ (here : column < length columns).
        let class = is.first column here in
        let within = class.1 in
        let long = length_push lists list in (
          class.0,
          omega (arith, within, long),
          before maps id 0 class.0 (low_of class.0 within) ∙ class.2,
          λ j earlier. subst (λ n. n < column) (sym (before maps id 0 j (low_of j (omega (arith, earlier, within))))) (class.3 j earlier),
        ))
        (λ (end : (column ≡ length columns) × (id ≡ column)).
        let long = length_push lists list in
        let each = is.each in
        let is_last = end.0 in (
          length lists,
          omega (arith, long),
          last maps id 0 (length lists) (sym each) ∙ end.1,
          λ j earlier.
              let least = below j earlier in
              subst (λ n. n < column) (sym (before maps id 0 j (low_of j earlier))) (omega (arith, least, is_last)),
        ))
        (old_or_last columns list id new added column low)

-- there are at most as many columns as classes
pub few_columns : (lists columns : Lists) (maps : List ℕ) → IsColumns lists columns maps → length columns ≤ length lists
few_columns lists columns maps is =
    let less : sum_by (λ _. 1) columns ≤ sum_by (λ _. 1) lists = weighs ◌≡◌ (λ _. 1) (λ x x' y a b. a ∙ sym b) columns lists is.different listed (λ x y c e. omega arith) in
    omega (arith, less, sum_by_ones columns, sum_by_ones lists)
  where
    listed : (x : List (List (Pair ℕ))) → Contains columns x → (y : List (List (Pair ℕ))) × Contains lists y × (x ≡ y)
    listed x (i, within, at) =
        let class = is.first i within in
        let k = class.0 in
        let list = slice_index_or lists k [] in
        (list, Contains-get_or lists k [] class.1, sym at ∙ get_or_from_slice_get columns i list x (ap (slice_get columns) (sym class.2) ∙ is.there k class.1))

-- each class has a column
pub columns_within : (lists columns : Lists) (maps : List ℕ) → IsColumns lists columns maps → (k : ℕ) → k < length maps → slice_index maps k < length columns
columns_within lists columns maps is k low =
    let each = is.each in
    slice_get_within columns (slice_index maps k) (slice_index_or lists k []) (is.there k (omega (arith, low, each)))

-- what is put into a set of items that are reported apart exactly is added
pub inserted : {K : Type 0} {eq : K → K → Bool} → IsEquivalence eq → ((x y : K) → Decides (eq x y) (x ≡ y)) → (old : List K) (item : K) (id : ℕ) (new : List K) → new ≡ (if list_any (eq item) old then old else old ++ item ∷ []) → (k : K) × (slice_get new id ≡ Some k) × (eq item k ≡ true) → IsAdded old item id new
inserted {K} {eq} laws exact old item id new keys (k, at, same) =
    let there : slice_get new id ≡ Some item = at ∙ ap Some (sym ((exact item k).0 same)) in
    record { there = there; within = slice_get_within new id item there; grown = by_test (list_any (eq item) old) refl keys }
  where
    by_test : (b : Bool) → list_any (eq item) old ≡ b → new ≡ (if b then old else old ++ item ∷ []) → (new ≡ old) ⊎ ((Contains old item → ⊥) × (new ≡ old ++ item ∷ []))
    by_test true e h = inl h
    by_test false e h = inr (λ c. let found = list_any-from_Contains laws item old c in absurd (cc), h)
