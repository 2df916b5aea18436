-- The table of an automaton with a column for each of its query units.
use Rattle.std.specs.Prelude.{◌≡◌, ◌⊎◌, ℕ, ◌+◌, ◌*◌, ◌<◌, ◌≤◌, List, length, All}
use Rattle.hz_base_model.specs.Limits.{class_limit, unit_limit}
use Rattle.hz_pipeline_model.specs.Tables.Tables.{IsTable}
use Rattle.hz_states.specs.declared.fault.StateFault.{StateFault}
use Rattle.hz_states.specs.declared.fault.StateFault.TheVariants.{CellLimit, NoMemory}
use Rattle.hz_determ.specs.declared.build.Caps.{Caps}
use Rattle.hz_determ.specs.declared.build.Explored.{Explored}
use Rattle.hz_determ.specs.Asking.{IsSingle}

-- What an explored automaton keeps that is to have a column for each of these units: it is within its limits without them,
-- and its states have one grid each if there are any.
pub record IsAskable (explored : Explored) (asks : List ℕ) (caps : Caps) : Type 0 where
  pub columns : ℕ
  pub table : IsTable explored.plain.rows columns
  pub each : length explored.sets.items ≡ length explored.plain.rows
  pub single : 0 < length asks → All (λ set. IsSingle (length explored.grids.items) set.items) explored.sets.items
  pub few_columns : columns ≤ class_limit
  pub few_asks : length asks ≤ unit_limit
  pub cells : length explored.plain.rows * (columns + 1) ≤ caps.cells

-- the entries of a table of so many columns, with those of the units that are asked for
abbrev pub entries_asked : Explored → List ℕ → ℕ → ℕ
entries_asked explored asks columns = length explored.plain.rows * (columns + length asks + 1)

-- they are within a cap
pub record HasRoom (explored : Explored) (asks : List ℕ) (cap : ℕ) : Type 0 where
  pub within : (columns : ℕ) → IsTable explored.plain.rows columns → entries_asked explored asks columns ≤ cap

-- they are above it
pub record LacksRoom (explored : Explored) (asks : List ℕ) (cap : ℕ) : Type 0 where
  pub above : (columns : ℕ) → IsTable explored.plain.rows columns → cap < entries_asked explored asks columns

-- why there is no table with those columns: too many entries, or want of memory
abbrev pub IsAskFault : Explored → List ℕ → ℕ → StateFault → Type 0
IsAskFault explored asks cap fault = ((fault ≡ CellLimit) × LacksRoom explored asks cap) ⊎ (fault ≡ NoMemory)
