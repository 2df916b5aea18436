-- Tables of states: a row for each state, an entry for each column. Bala and Rubin, 'Efficient Instruction Scheduling
-- Using Finite State Automata', MICRO-28; the shape of a row is this profile's, docs/RULES.md.
use Rattle.std.specs.Prelude.{◌≡◌, ◌≢◌, ℕ, ◌+◌, ◌<◌, List, [], ◌∷◌, Option, Some, None, length, slice_index_or}

-- For each state a row, with an entry for each column: the next state, or none. State 0 is the start.
abbrev pub Table : Type 0
Table = List (List (Option ℕ))

-- the row of a state, with no entry where there is no such state
abbrev pub row_of : Table → ℕ → List (Option ℕ)
row_of table state = slice_index_or table state []

-- the entry of a state in a column: none too where there is no such state or column
abbrev pub entry : Table → ℕ → ℕ → Option ℕ
entry table state column = slice_index_or (row_of table state) column None

-- the state after a list of columns, none as soon as an entry is none
abbrev pub walk : Table → Option ℕ → List ℕ → Option ℕ
walk table None w = None
walk table (Some state) [] = Some state
walk table (Some state) (column ∷ w) = walk table (entry table state column) w

-- A table of so many columns before the advance, which is the last column of each row and never none.
-- What these columns are for is not said here.
pub record IsTable (table : Table) (columns : ℕ) : Type 0 where
  pub start : 0 < length table
  pub width : (state : ℕ) → state < length table → length (row_of table state) ≡ columns + 1
  pub targets : (state column next : ℕ) → entry table state column ≡ Some next → next < length table
  pub advances : (state : ℕ) → state < length table → entry table state columns ≢ None

-- some list of columns leads from the start to the state
abbrev pub IsReached : Table → ℕ → Type 0
IsReached table state = (w : List ℕ) × (walk table (Some 0) w ≡ Some state)
