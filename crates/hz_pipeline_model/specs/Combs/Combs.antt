-- Combs: the rows of a table laid into one another, so that entries that are none take hardly any place. GCC's genautomata
-- keeps tables so ('comb vectors'); GCC Internals, 'Specifying processor pipeline description', on `no-comb-vect`.
use Rattle.std.specs.Prelude.{◌≡◌, ℕ, suc, ◌+◌, ◌<◌, ◌==◌, if◌then◌else◌, List, [], ◌∷◌, Option, Some, None, length, map, slice_index}
use Rattle.std.specs.List.{range_with_len}
use Rattle.hz_pipeline_model.specs.Tables.Tables.{Table}

-- A comb, for a table of so many columns before the advance. A state has a base: the place of its row's first entry. A place
-- has an owner, which is a state or none of them, and a target.
pub record Comb : Type 0 where
  pub columns : ℕ
  pub bases : List ℕ
  pub owners : List ℕ
  pub targets : List ℕ

-- the place of a state's entry in a column
abbrev pub place_at : Comb → ℕ → ℕ → ℕ
place_at comb state column = slice_index comb.bases state + column

-- what stands at a place for a state: the target where the state is its owner, and none where it isn't
abbrev pub laid_at : List ℕ → List ℕ → ℕ → ℕ → Option ℕ
laid_at owners targets state place = if slice_index owners place == state then Some (slice_index targets place) else None

-- the entry of a state in a column, as it is laid
abbrev pub laid : Comb → ℕ → ℕ → Option ℕ
laid comb state column = laid_at comb.owners comb.targets state (place_at comb state column)

-- the rows that are laid in a comb
abbrev pub rows_in : Comb → Table
rows_in comb = map (λ state. map (laid comb state) (range_with_len 0 (comb.columns + 1))) (range_with_len 0 (length comb.bases))

-- Each place has an owner and a target, and each entry of a state has a place.
pub record HasPlaces (comb : Comb) : Type 0 where
  pub same : length comb.targets ≡ length comb.owners
  pub within : (state : ℕ) → state < length comb.bases → place_at comb state comb.columns < length comb.owners

-- how many entries of a row are not none
abbrev pub entries_in : List (Option ℕ) → ℕ
entries_in [] = 0
entries_in (None ∷ row) = entries_in row
entries_in (Some next ∷ row) = suc (entries_in row)

-- how many entries of a table are not none
abbrev pub entries_of : Table → ℕ
entries_of [] = 0
entries_of (row ∷ table) = entries_in row + entries_of table
