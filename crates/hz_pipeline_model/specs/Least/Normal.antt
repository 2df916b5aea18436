-- The table that has no two states for one purpose, and numbers its states by the order in which they are read. GCC
-- Internals, 'Specifying processor pipeline description', on `no-minimization`; the order is this profile's, docs/RULES.md.
use Rattle.std.specs.Prelude.{ℕ, List}
use Rattle.hz_pipeline_model.specs.Tables.Tables.{Table, IsTable}
use Rattle.hz_pipeline_model.specs.Tables.Apart.{AllApart}
use Rattle.hz_pipeline_model.specs.Tables.Orders.{IsBreadthFirst}

-- A table whose states are apart from one another and numbered breadth-first.
pub record IsNormal (table : Table) (columns : ℕ) : Type 0 where
  pub is : IsTable table columns
  pub parents : List (ℕ × ℕ)
  pub order : IsBreadthFirst table columns parents
  pub apart : AllApart table
