-- A table that is kept as a comb.
use Rattle.std.specs.Prelude.{ℕ, ◌+◌, ◌*◌, ◌≤◌, length}
use Rattle.hz_pipeline_model.specs.Tables.AskColumns.{column_limit}
use Rattle.hz_pipeline_model.specs.Tables.StateLimits.{state_limit}
use Rattle.hz_pipeline_model.specs.Tables.Tables.{Table}
use Rattle.hz_pipeline_model.specs.Combs.Combs.{Comb, HasPlaces, rows_in}

-- the rows of a table, how many columns stand before the advance, and how many places its rows take
pub record Packing : Type 0 where
  pub columns : ℕ
  pub rows : Table
  pub places : ℕ

-- what a comb keeps
abbrev pub packing_of : Comb → Packing
packing_of comb = record { columns = comb.columns; rows = rows_in comb; places = length comb.owners }

-- What holds of every comb that is kept: there are places for its rows, and no more than full rows take.
pub record IsPacked (comb : Comb) : Type 0 where
  pub wide : comb.columns ≤ column_limit
  pub few : length comb.bases ≤ state_limit
  pub places : HasPlaces comb
  pub most : length comb.owners ≤ length comb.bases * (comb.columns + 1)
