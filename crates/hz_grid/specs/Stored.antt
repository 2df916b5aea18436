-- How a grid is stored: its rows, one for each cycle from 0 on.
use Rattle.std.specs.Prelude.{◌≡◌, ◌↔◌, ◌⊎◌, ℕ, ◌+◌, ◌-◌, ◌<◌, ◌≤◌, List, [], ◌∷◌, ◌++◌, map, filter, length, slice_index, Contains}
use Rattle.std.specs.List.{range_with_len}
use Rattle.hz_base_model.specs.Pairs.{Pair}
use Rattle.hz_grid.specs.declared.rows.TheConstants.{UNITS}
use Rattle.hz_grid.specs.declared.grid_of.TheConstants.{CYCLES}
use Rattle.hz_grid.specs.Rows.{has_unit, HasUnit}

-- the unit is in the row of that cycle; no unit is past the last row
abbrev pub IsSet : List ℕ → ℕ → ℕ → Type 0
IsSet rows unit cycle = HasUnit (slice_index rows cycle) unit

-- the units of a row, ascending
unfoldable pub units_of : ℕ → List ℕ
units_of row = filter (has_unit row) (range_with_len 0 UNITS)

-- the pairs of a row in that cycle
abbrev pub row_pairs : ℕ → ℕ → List (Pair ℕ)
row_pairs cycle row = map (λ unit. record { unit = unit; cycle = cycle }) (units_of row)

-- the pairs of rows of which the first stands in that cycle
abbrev pub pairs_from : ℕ → List ℕ → List (Pair ℕ)
pairs_from cycle [] = []
pairs_from cycle (row ∷ rows) = row_pairs cycle row ++ pairs_from (cycle + 1) rows

-- units and cycles are in their range, and the last row has a unit
pub record IsRows (rows : List ℕ) : Type 0 where
  pub units : (unit cycle : ℕ) → IsSet rows unit cycle → unit < UNITS
  pub cycles : length rows ≤ CYCLES
  pub trimmed : 0 < length rows → ¬ ((unit : ℕ) → ¬ IsSet rows unit (length rows - 1))

-- some unit is in both in some cycle
abbrev pub ShareUnit : List ℕ → List ℕ → Type 0
ShareUnit first second = (unit : ℕ) × (cycle : ℕ) × IsSet first unit cycle × IsSet second unit cycle

-- the rows have these pairs of a unit and a cycle, and no others
abbrev pub HasJust : List (ℕ × ℕ) → List ℕ → Type 0
HasJust pairs rows = (unit cycle : ℕ) → IsSet rows unit cycle ↔ Contains pairs (unit, cycle)

-- the same units in each cycle
abbrev pub HasSameUnits : List ℕ → List ℕ → Type 0
HasSameUnits old new = (unit cycle : ℕ) → IsSet new unit cycle ↔ IsSet old unit cycle

-- the units as before, and that unit in that cycle
abbrev pub GainsUnit : ℕ → ℕ → List ℕ → List ℕ → Type 0
GainsUnit unit cycle old new = (other place : ℕ) → IsSet new other place ↔ (IsSet old other place ⊎ ((other ≡ unit) × (place ≡ cycle)))

-- in each cycle the units of both, and no others
abbrev pub IsJoined : List ℕ → List ℕ → List ℕ → Type 0
IsJoined first second rows = (unit cycle : ℕ) → IsSet rows unit cycle ↔ (IsSet first unit cycle ⊎ IsSet second unit cycle)

-- the rows of a grid, of so many words each
pub record IsGridOf (many : ℕ) (all : List ℕ) : Type 0 where
  pub few : many ≤ 4
  pub rows : IsRows all
