-- How a table is kept: its entries, row after row.
use Rattle.std.specs.Prelude.{◌≡◌, ℕ, zero, suc, ◌+◌, ◌*◌, ◌≤◌, List, [], ◌∷◌, Option, length, take, drop}
use Rattle.hz_pipeline_model.specs.Tables.AskColumns.{column_limit}
use Rattle.hz_pipeline_model.specs.Tables.StateLimits.{state_limit}
use Rattle.hz_pipeline_model.specs.Tables.Tables.{Table}
use Rattle.hz_tables.specs.Rows.{AreStates}

-- so many rows of one width
abbrev pub rows_in : ℕ → ℕ → List (Option ℕ) → Table
rows_in width zero cells = []
rows_in width (suc states) cells = take width cells ∷ rows_in width states (drop width cells)

-- there are as many entries as rows of that width have, and each may be
pub record AreCells (columns states : ℕ) (cells : List (Option ℕ)) : Type 0 where
  pub wide : columns ≤ column_limit
  pub few : states ≤ state_limit
  pub each : length cells ≡ states * (columns + 1)
  pub targets : AreStates cells
