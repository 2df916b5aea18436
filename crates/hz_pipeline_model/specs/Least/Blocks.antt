-- Partitions of the states of a table. Hopcroft, 'An n log n algorithm for minimizing states in a finite automaton', 1971.
use Rattle.std.specs.Prelude.{◌≡◌, ◌≢◌, ℕ, ◌<◌, List, length, slice_index_or}
use Rattle.hz_pipeline_model.specs.Tables.Tables.{Table}
use Rattle.hz_pipeline_model.specs.Tables.Apart.{Apart}

-- the block of a state
abbrev pub block_of : List ℕ → ℕ → ℕ
block_of blocks state = slice_index_or blocks state 0

-- Each state has a block, and states of different blocks are apart.
pub record KeepsApart (table : Table) (blocks : List ℕ) : Type 0 where
  pub each : length blocks ≡ length table
  pub apart : (one other : ℕ) → one < length table → other < length table → block_of blocks one ≢ block_of blocks other → Apart table one other

-- numbers of blocks are below this
abbrev pub block_limit : ℕ
block_limit = 131072
