-- The columns of a table before its advance: this profile, docs/RULES.md.
use Rattle.std.specs.Prelude.{◌≡◌, ◌≢◌, ℕ, ◌<◌, List, [], Some, length, slice_get, slice_index, slice_index_or}
use Rattle.std.specs.List.{AllPairs}
use Rattle.hz_base_model.specs.Pairs.{Pair}

-- Classes with these lists share a column exactly where their lists are equal, and columns are numbered by the first
-- class of each. The map has the column of each class.
pub record IsColumns (lists columns : List (List (List (Pair ℕ)))) (map : List ℕ) : Type 0 where
  pub each : length map ≡ length lists
  pub there : (k : ℕ) → k < length lists → slice_get columns (slice_index map k) ≡ Some (slice_index_or lists k [])
  pub different : AllPairs (λ x y. x ≢ y) columns
  pub first : (column : ℕ) → column < length columns → (k : ℕ) × (k < length lists) × (slice_index map k ≡ column) × ((j : ℕ) → j < k → slice_index map j < column)
