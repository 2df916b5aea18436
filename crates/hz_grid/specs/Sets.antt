-- Sets of cycles.
use Rattle.std.specs.Prelude.{◌≡◌, ℕ, ◌+◌, ◌*◌, ◌<◌, Bool, ◌&&◌, nat_lt, IsTrue}
use Rattle.hz_base_model.specs.Limits.{cycle_limit}
use Rattle.hz_grid.specs.declared.cycles.Cycles.{Cycles}
use Rattle.hz_grid.specs.Rows.{has_unit}
use Rattle.hz_grid.specs.Words.{row_of}

-- A cycle below the limit is in the set where its bit is 1, of the number that the words make.
unfoldable pub has_cycle : Cycles → ℕ → Bool
has_cycle cycles cycle = nat_lt cycle cycle_limit && has_unit (row_of cycles.words) cycle

-- the cycle is in the set
abbrev pub HasCycle : Cycles → ℕ → Type 0
HasCycle cycles cycle = IsTrue (has_cycle cycles cycle)

-- the cycle is one of the set, so many later, and has not gone past the last one
abbrev pub IsLater : Cycles → ℕ → ℕ → Type 0
IsLater cycles later cycle = (cycle < cycle_limit) × (earlier : ℕ) × HasCycle cycles earlier × (cycle ≡ later + earlier)

-- the cycle is in one of so many copies, each so many cycles after the one before, and has not gone past the last one
abbrev pub IsCopied : Cycles → ℕ → ℕ → ℕ → Type 0
IsCopied cycles times apart cycle = (cycle < cycle_limit) × (copy : ℕ) × (copy < times) × (earlier : ℕ) × HasCycle cycles earlier × (cycle ≡ copy * apart + earlier)
