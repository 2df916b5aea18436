-- The first entries of a state, and the first rows of a table.
use Rattle.std.specs.Prelude.{◌≡◌, ℕ, ◌<◌, Some, length}
use Rattle.hz_pipeline_model.specs.Tables.Tables.{Table, entry}
use Rattle.hz_layer_rows.specs.Leading.{IsRow}

-- the entries of a state in the first k columns are states
pub record LeadsWithin (table : Table) (state k : ℕ) : Type 0 where
  pub targets : (column next : ℕ) → column < k → entry table state column ≡ Some next → next < length table

-- each of the first k rows is so
pub record AreRows (table : Table) (columns k : ℕ) : Type 0 where
  pub each : (state : ℕ) → state < k → IsRow table columns state
