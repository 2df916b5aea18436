-- A table as its rows, however they are kept. The definitions of tables are those of hz_pipeline_model.
use Rattle.std.specs.Prelude.{◌≡◌, ℕ, ◌+◌, ◌<◌, ◌≤◌, List, Option, length, All, IfSome}
use Rattle.hz_pipeline_model.specs.Tables.StateLimits.{state_limit}
use Rattle.hz_pipeline_model.specs.Tables.AskColumns.{column_limit}
use Rattle.hz_pipeline_model.specs.Tables.Tables.{Table}

-- the rows of a table, and how many columns stand before the advance
pub record Rows : Type 0 where
  pub columns : ℕ
  pub rows : Table

-- an entry is none, or a state that may be
abbrev pub IsState : Option ℕ → Type 0
IsState next = IfSome next (λ state. state < state_limit)

-- each entry of a row is
abbrev pub AreStates : List (Option ℕ) → Type 0
AreStates row = All IsState row

-- what holds of every table that is built row by row
pub record KeepsRows (table : Rows) : Type 0 where
  pub columns : table.columns ≤ column_limit
  pub few : length table.rows ≤ state_limit
  pub width : All (λ row. length row ≡ table.columns + 1) table.rows
  pub states : All AreStates table.rows
