-- Columns that ask: after the columns of the classes one for each unit that is asked for, and then the advance. GCC
-- Internals, 'Specifying processor pipeline description', on `define_query_cpu_unit`; the columns are this profile's,
-- docs/RULES.md.
use Rattle.std.specs.Prelude.{◌≡◌, ℕ, ◌+◌, ◌<◌, nat_lt, if◌then◌else◌, Bool, List, [], ◌∷◌, ◌++◌, Option, Some, None, is_some, length, map, take, drop, slice_set}
use Rattle.hz_pipeline_model.specs.Tables.Tables.{Table, row_of, entry, walk}
use Rattle.hz_pipeline_model.specs.Reaching.Columns.{AreColumns}

-- columns of a table before the advance: 1,024 of classes, and 256 that ask
abbrev pub column_limit : ℕ
column_limit = 1280

-- The table with so many ask columns: the entries of classes and of the advance are as they were, and the entry of an
-- ask is the row's own state where that is marked, else none.
pub record HasAsks (table asked : Table) (columns asks : ℕ) (marks : ℕ → ℕ → Bool) : Type 0 where
  pub each : length asked ≡ length table
  pub width : (state : ℕ) → state < length table → length (row_of asked state) ≡ columns + asks + 1
  pub classes : (state column : ℕ) → state < length table → column < columns → entry asked state column ≡ entry table state column
  pub marked : (state ask : ℕ) → state < length table → ask < asks → entry asked state (columns + ask) ≡ (if marks state ask then Some state else None)
  pub advance : (state : ℕ) → state < length table → entry asked state (columns + asks) ≡ entry table state columns

-- an ask leads to no other state
pub record AsksStay (table : Table) (columns asks : ℕ) : Type 0 where
  pub stays : (state ask next : ℕ) → ask < asks → entry table state (columns + ask) ≡ Some next → next ≡ state

-- the row without the entries of its asks
abbrev pub row_without_asks : ℕ → ℕ → List (Option ℕ) → List (Option ℕ)
row_without_asks columns asks row = take columns row ++ drop (columns + asks) row

-- the table with its ask columns taken out
abbrev pub without_asks : ℕ → ℕ → Table → Table
without_asks columns asks asked = map (row_without_asks columns asks) asked

-- the column of a class, or of the advance, beside so many asks
abbrev pub beside_asks : ℕ → ℕ → ℕ → ℕ
beside_asks columns asks column = if nat_lt column columns then column else column + asks

-- the same of a list of columns
abbrev pub all_beside : ℕ → ℕ → List ℕ → List ℕ
all_beside columns asks w = map (beside_asks columns asks) w

-- two tables walk the same columns of classes and advances, and then tell the same at each ask
pub record AsksAlike (first second : Table) (columns asks : ℕ) : Type 0 where
  pub walks : (w : List ℕ) → AreColumns columns w → is_some (walk first (Some 0) (all_beside columns asks w)) ≡ is_some (walk second (Some 0) (all_beside columns asks w))
  pub tells : (w : List ℕ) → AreColumns columns w → (ask : ℕ) → ask < asks → is_some (walk first (Some 0) (all_beside columns asks w ++ (columns + ask) ∷ [])) ≡ is_some (walk second (Some 0) (all_beside columns asks w ++ (columns + ask) ∷ []))

-- a place of a row, beside asks
abbrev pub place_beside : ℕ → ℕ → ℕ × ℕ → ℕ × ℕ
place_beside columns asks place = (place.0, beside_asks columns asks place.1)

-- the places of states, beside asks: the start keeps its own
abbrev pub places_beside : ℕ → ℕ → List (ℕ × ℕ) → List (ℕ × ℕ)
places_beside columns asks parents = slice_set (map (place_beside columns asks) parents) 0 (0, 0)
