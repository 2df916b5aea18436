-- The entries of a table by the state to which they lead.
use Rattle.std.specs.Prelude.{◌≡◌, ℕ, ◌<◌, List, Some, length}
use Rattle.std.specs.List.{Contains}
use Rattle.hz_pipeline_model.specs.Tables.Tables.{Table, entry}
use Rattle.hz_pipeline_model.specs.Tables.Orders.{IsReadBefore}
use Rattle.hz_tables.specs.Rows.{Rows}
use Rattle.hz_minim.specs.declared.arrows.Arrow.{Arrow}
use Rattle.hz_minim.specs.Lists.{list_at}

-- the entry of a state in a column
abbrev pub arrow_from : ℕ → ℕ → Arrow
arrow_from state column = record { column = column; source = state }

-- Entries that were read before a place are listed by their states, and nothing else is.
pub record HasRead (table : Table) (state column : ℕ) (arrows : List (List Arrow)) : Type 0 where
  pub each : length arrows ≡ length table
  pub there : (target : ℕ) (arrow : Arrow) → Contains (list_at arrows target) arrow → entry table arrow.source arrow.column ≡ Some target
  pub read : (source at target : ℕ) → IsReadBefore (source, at) (state, column) → entry table source at ≡ Some target → Contains (list_at arrows target) (arrow_from source at)

-- All entries are listed by their states, and nothing else is.
pub record AreArrows (plain : Rows) (arrows : List (List Arrow)) : Type 0 where
  pub there : (target : ℕ) (arrow : Arrow) → Contains (list_at arrows target) arrow → entry plain.rows arrow.source arrow.column ≡ Some target
  pub all : (source at target : ℕ) → entry plain.rows source at ≡ Some target → Contains (list_at arrows target) (arrow_from source at)

-- the arrows have so many sources and columns at most
pub record AreWithin (states columns : ℕ) (arrows : List (List Arrow)) : Type 0 where
  pub source : (target : ℕ) (arrow : Arrow) → Contains (list_at arrows target) arrow → arrow.source < states
  pub column : (target : ℕ) (arrow : Arrow) → Contains (list_at arrows target) arrow → arrow.column < columns
