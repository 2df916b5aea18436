-- Tables whose entries are looked at one by one.
use Rattle.std.specs.Prelude.{◌≡◌, ◌≢◌, ℕ, ◌<◌, ◌≤◌, Some, None, length}
use Rattle.hz_pipeline_model.specs.Tables.Tables.{Table, entry}

-- the entries of a state are, and its advance is one
pub record IsRow (table : Table) (columns state : ℕ) : Type 0 where
  pub targets : (column next : ℕ) → column ≤ columns → entry table state column ≡ Some next → next < length table
  pub advances : entry table state columns ≢ None
