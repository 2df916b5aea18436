-- A grid by the cycles in which it has a unit.
use Rattle.std.specs.Prelude.{◌≡◌, ◌↔◌, ◌⊎◌, ℕ, ◌<◌, ◌==◌, Bool, List, [], ◌∷◌, ◌++◌, IsTrue, All}
use Rattle.std.specs.List.{list_any}
use Rattle.hz_base_model.specs.Pairs.{Pair}
use Rattle.hz_grid.specs.declared.usage.UsedRow.{UsedRow}
use Rattle.hz_grid.specs.Rows.{has_unit, HasUnit, IsWithin}
use Rattle.hz_grid.specs.Grids.{Holds}
use Rattle.hz_grid.specs.Hashes.{has_pair}

-- some unit of the row is held in the cycle
abbrev pub MeetsIn : List (Pair ℕ) → ℕ → ℕ → Type 0
MeetsIn pairs cycle row = (unit : ℕ) × Holds pairs unit cycle × HasUnit row unit

-- whether the row's cycle is this one
abbrev pub is_at : ℕ → UsedRow → Bool
is_at cycle row = row.cycle == cycle

-- the row has the units that the pairs hold in its cycle
pub record IsRowOf (pairs : List (Pair ℕ)) (row : UsedRow) : Type 0 where
  pub units : (unit : ℕ) → HasUnit row.units unit ↔ Holds pairs unit row.cycle

-- rows of the pairs, one of which has the cycle of each pair
pub record AreRowsOf (pairs : List (Pair ℕ)) (rows : List UsedRow) : Type 0 where
  pub each : All (IsRowOf pairs) rows
  pub whole : (unit cycle : ℕ) → Holds pairs unit cycle → IsTrue (list_any (is_at cycle) rows)

-- the row has the units that the pairs hold in any cycle
pub record HasUnitsOf (pairs : List (Pair ℕ)) (row : ℕ) : Type 0 where
  pub units : (unit cycle : ℕ) → Holds pairs unit cycle → HasUnit row unit

-- Both, reported by tests.
pub record IsUsage (pairs : List (Pair ℕ)) (rows : List UsedRow) (all : ℕ) : Type 0 where
  pub each : All (λ row. (unit : ℕ) → has_unit row.units unit ≡ has_pair pairs row.cycle unit) rows
  pub whole : (unit cycle : ℕ) → IsTrue (has_pair pairs cycle unit) → IsTrue (list_any (is_at cycle) rows)
  pub units : (unit cycle : ℕ) → IsTrue (has_pair pairs cycle unit) → HasUnit all unit

-- The rows have one more, or none if that has no unit.
pub record KeepsUsed (cycle units : ℕ) (old new : List UsedRow) : Type 0 where
  pub kept : (new ≡ old ++ record { cycle = cycle; units = units } ∷ []) ⊎ ((new ≡ old) × ((unit : ℕ) → ¬ HasUnit units unit))
