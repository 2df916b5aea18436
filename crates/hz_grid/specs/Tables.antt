-- Reservation tables: in which cycles units are taken.
use Rattle.std.specs.Prelude.{ℕ, ◌+◌, ◌*◌, ◌<◌, List, [], slice_index_or}
use Rattle.hz_base_model.specs.Limits.{automaton_limit, unit_limit}
use Rattle.hz_grid.specs.declared.cycles.Cycles.{Cycles}
use Rattle.hz_grid.specs.Sets.{HasCycle}

-- the row of a unit: each automaton has a row for each unit that it may have
abbrev pub row_of : ℕ → ℕ → ℕ
row_of automaton unit = automaton * unit_limit + unit

-- the cycles of a row
abbrev pub row_at : List Cycles → ℕ → Cycles
row_at rows row = slice_index_or rows row (record { words = [] })

-- the unit of the automaton is taken in the cycle
pub record IsTaken (rows : List Cycles) (automaton unit cycle : ℕ) : Type 0 where
  pub automaton_below : automaton < automaton_limit
  pub unit_below : unit < unit_limit
  pub taken : HasCycle (row_at rows (row_of automaton unit)) cycle
