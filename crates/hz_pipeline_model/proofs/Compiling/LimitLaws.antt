-- An automaton is within its limits or past one, and not both.
use Rattle.std.proofs.Common.{◌≡◌, ℕ, ◌≤◌, List, [], length, slice_get, sym, ap, ◌∙◌, subst, arith, ◌+◌}
use Rattle.std.specs.Prelude.{Contains, slice_index, slice_index_or}
use Rattle.std.specs.List.{sum_by}
use Rattle.std.proofs.lemmas.Option.{slice_get_within, get_or_from_slice_get}
use Rattle.hz_base_model.specs.Pairs.{Pair}
use Rattle.hz_pipeline_model.specs.Accepting.Replay.{Pipeline}
use Rattle.hz_pipeline_model.specs.Reaching.Counts.{Count, CountIsAbove}
use Rattle.hz_pipeline_model.proofs.Reaching.CountLaws.{weighs, sum_by_ones, no_count_both}
use Rattle.hz_pipeline_model.specs.Compiling.ClassColumns.{IsColumns}
use Rattle.hz_pipeline_model.specs.Compiling.CompiledParts.{HasColumns, cap_of, IsWithinLimits, IsPastLimit}

module _ (lists : List (List (List (Pair ℕ)))) where
  abbrev Lists : Type 0
  Lists = List (List (List (Pair ℕ)))

  -- each column is the list of a class, and so a column by any other count
  column_in : (columns others : Lists) (maps marks : List ℕ) → IsColumns lists columns maps → IsColumns lists others marks → (x : List (List (Pair ℕ))) → Contains columns x → (y : List (List (Pair ℕ))) × Contains others y × (x ≡ y)
  column_in columns others maps marks is also x (i, within, at) =
      let class = is.first i within in
      let k = class.0 in
      let here = is.there k class.1 in
      let there = also.there k class.1 in
      let list = slice_index_or lists k [] in
      let same : list ≡ x = sym (get_or_from_slice_get columns i list x (ap (slice_get columns) (sym class.2) ∙ here)) ∙ at in
      (list, (slice_index marks k, slice_get_within others (slice_index marks k) list there, get_or_from_slice_get others (slice_index marks k) list list there), sym same)

  columns_fewer : (columns others : Lists) (maps marks : List ℕ) → IsColumns lists columns maps → IsColumns lists others marks → length columns ≤ length others
  columns_fewer columns others maps marks is also =
      let less : sum_by (λ _. 1) columns ≤ sum_by (λ _. 1) others = weighs ◌≡◌ (λ _. 1) (λ x x' y a b. a ∙ sym b) columns others is.different (column_in columns others maps marks is also) (λ x y c e. omega arith) in
      omega (arith, less, sum_by_ones columns, sum_by_ones others)

  pub columns_same : (n k : ℕ) → HasColumns lists n → HasColumns lists k → n ≡ k
  columns_same n k (columns, maps, is, count) (others, marks, also, other) =
      let one = columns_fewer columns others maps marks is also in
      let two = columns_fewer others columns marks maps also is in
      omega (arith, one, two, count, other)

  pub within_or_past : {U : Type 0} (shown : _) (queries : ℕ) (m : Pipeline U) (kind : Count) → IsWithinLimits shown lists queries m → IsPastLimit shown lists queries m kind → ⊥
  within_or_past shown queries m kind within past =
      let same = columns_same within.columns past.columns within.has past.has in
      no_count_both m (within.columns + queries) (cap_of shown kind) kind (subst (λ n. CountIsAbove m (n + queries) kind (cap_of shown kind)) (sym same) past.above) (within.counts kind)
