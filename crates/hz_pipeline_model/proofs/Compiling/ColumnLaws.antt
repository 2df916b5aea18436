-- Classes go by their columns: the pipeline of the classes' lists runs as that of the columns.
use Rattle.std.proofs.Common.{◌≡◌, ℕ, ◌+◌, ◌<◌, ◌≤◌, List, [], ◌∷◌, length, Option, Some, None, slice_get, refl, sym, ap, ◌∙◌, arith, ⊎_elim}
use Rattle.std.specs.Prelude.{slice_index, slice_index_or, All}
use Rattle.std.specs.Option.{option_map}
use Rattle.std.proofs.lemmas.Bool.{cases_lt}
use Rattle.std.proofs.lemmas.List.{get_or_default, get_or_past}
use Rattle.std.proofs.lemmas.List.Elements.{All-head, All-tail}
use Rattle.std.proofs.lemmas.Option.{slice_get-map, slice_get-get_or, slice_get_within}
use Rattle.hz_base_model.specs.Pairs.{Pair}
use Rattle.hz_description_model.specs.Reservations.Sets.{Statement}
use Rattle.hz_pipeline_model.specs.Accepting.Events.{Event, issue, advance, ask, IsOfClass}
use Rattle.hz_pipeline_model.specs.Accepting.Replay.{Treatment, alternatives_at, of_class}
use Rattle.hz_pipeline_model.specs.Reaching.Columns.{class_of_grids, pipeline_on}
use Rattle.hz_pipeline_model.proofs.Reaching.WordLaws.{IsInside}
use Rattle.hz_pipeline_model.specs.Compiling.ClassColumns.{IsColumns}
use Rattle.hz_pipeline_model.specs.Compiling.Moved.{IsMoved}
use Rattle.hz_pipeline_model.proofs.Compiling.MovedEvents.{moved}

-- past the end of a list nothing stands
pub past_end : {A : Type 0} (xs : List A) (k : ℕ) → length xs ≤ k → slice_get xs k ≡ None
past_end xs k high = by_item (slice_get xs k) refl
  where
    by_item : (o : Option _) → slice_get xs k ≡ o → o ≡ None
    by_item None e = refl
    by_item (Some x) e = let within = slice_get_within xs k x e in absurd (omega (arith, within, high))

module _ (treatment : Treatment) (statements : List (Statement ℕ)) where
  -- the alternatives of a class of a pipeline on lists
  list_at : (lists : List (List (List (Pair ℕ)))) (k : ℕ) → alternatives_at (pipeline_on treatment statements lists) k ≡ of_class (option_map class_of_grids (slice_get lists k))
  list_at lists k = ap of_class (slice_get-map class_of_grids lists k)

  pub nothing_past : (lists : List (List (List (Pair ℕ)))) (k : ℕ) → length lists ≤ k → alternatives_at (pipeline_on treatment statements lists) k ≡ []
  nothing_past lists k high = list_at lists k ∙ ap (λ o. of_class (option_map class_of_grids o)) (past_end lists k high)

  module _ (lists columns : List (List (List (Pair ℕ)))) (maps : List ℕ) (is : IsColumns lists columns maps) (asks : ℕ) where
    -- the column of a class, past all columns and so many asks where there is no such class
    abbrev pub to_column : ℕ → ℕ
    to_column k = slice_index_or maps k (length columns + asks + 1)

    pub column_there : (k : ℕ) → k < length lists → (to_column k < length columns) × (slice_get columns (to_column k) ≡ slice_get lists k)
    column_there k low =
        let each = is.each in
        let index : to_column k ≡ slice_index maps k = get_or_default maps k (length columns + asks + 1) 0 (omega (arith, low, each)) in
        let there = ap (slice_get columns) index ∙ is.there k low in
        (slice_get_within columns (to_column k) _ there, there ∙ sym (slice_get-get_or lists k [] low))

    column_past : (k : ℕ) → length lists ≤ k → to_column k ≡ length columns + asks + 1
    column_past k high = let each = is.each in get_or_past maps k (length columns + asks + 1) (omega (arith, high, each))

    pub columns_moved : IsMoved to_column (pipeline_on treatment statements lists) (pipeline_on treatment statements columns)
    columns_moved = record {
      statements = λ source pairs now. (λ h. h, λ h. h);
      treatment = refl;
      alternatives = λ k. ⊎_elim
          (λ (low : k < length lists). list_at lists k ∙ (ap (λ o. of_class (option_map class_of_grids o)) (sym ((column_there k low).1)) ∙ sym (list_at columns (to_column k))))
          (λ (high : length lists ≤ k). let past = column_past k high in nothing_past lists k high ∙ sym (nothing_past columns (to_column k) (omega (arith, past))))
          (cases_lt k (length lists));
    }

    -- events of classes that are there are inside
    pub moved_inside : (t : List Event) → All (IsOfClass (length lists)) t → IsInside (length columns) (moved to_column t)
    moved_inside [] all = tt
    moved_inside (issue k ∷ t) all = ((column_there k (All-head (IsOfClass (length lists)) (issue k) t all)).0, moved_inside t (All-tail (IsOfClass (length lists)) (issue k) t all))
    moved_inside (advance n ∷ t) all = moved_inside t (All-tail (IsOfClass (length lists)) (advance n) t all)
    moved_inside (ask a u ∷ t) all = moved_inside t (All-tail (IsOfClass (length lists)) (ask a u) t all)

    -- events of columns are those of some classes
    pub unmoved : (t : List Event) → IsInside (length columns) t → (u : List Event) × (moved to_column u ≡ t)
    unmoved [] inside = ([], refl)
    unmoved (issue c ∷ t) inside =
        let class = is.first c inside.0 in
        let each = is.each in
        let rest = unmoved t inside.1 in
        let low = class.1 in
        let column : to_column class.0 ≡ c = get_or_default maps class.0 (length columns + asks + 1) 0 (omega (arith, low, each)) ∙ class.2 in
        (issue class.0 ∷ rest.0, ap (λ n. issue n ∷ moved to_column rest.0) column ∙ ap (λ es. issue c ∷ es) rest.1)
    unmoved (ask a u ∷ t) inside = let rest = unmoved t inside in (ask a u ∷ rest.0, ap (λ es. ask a u ∷ es) rest.1)
    unmoved (advance n ∷ t) inside = let rest = unmoved t inside in (advance n ∷ rest.0, ap (λ es. advance n ∷ es) rest.1)
