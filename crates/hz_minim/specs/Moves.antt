-- States that move from block to block. Hopcroft, 'An n log n algorithm for minimizing states in a finite automaton',
-- 1971.
use Rattle.std.specs.Prelude.{◌≡◌, ◌⊎◌, ℕ, ◌<◌, false, ◌&&◌, nat_lt, nat_le, List, length, slice_index_or, if◌then◌else◌}
use Rattle.std.specs.List.{Contains}
use Rattle.hz_pipeline_model.specs.Tables.Tables.{Table}
use Rattle.hz_pipeline_model.specs.Tables.Apart.{Apart}
use Rattle.hz_pipeline_model.specs.Least.Blocks.{block_of}
use Rattle.hz_minim.specs.declared.marks.Mark.{Mark}
use Rattle.hz_minim.specs.Lists.{list_at}

-- some states, each apart from each other one of the table
pub record IsSeparate (table : Table) (states : List ℕ) : Type 0 where
  pub within : (state : ℕ) → Contains states state → state < length table
  pub apart : (state other : ℕ) → Contains states state → other < length table → (Contains states other → ⊥) → Apart table state other

-- Some states go where their blocks go, and the others stay.
pub record IsMoved (goes : ℕ → ℕ) (states before after : List ℕ) : Type 0 where
  pub each : length after ≡ length before
  pub at : (state : ℕ) → state < length before → (Contains states state × (block_of after state ≡ goes (block_of before state))) ⊎ ((Contains states state → ⊥) × (block_of after state ≡ block_of before state))

-- each state is listed in its block, and nothing but states is
pub record IsListed (blocks : List ℕ) (members : List (List ℕ)) : Type 0 where
  pub there : (state : ℕ) → state < length blocks → Contains (list_at members (block_of blocks state)) state
  pub states : (block state : ℕ) → Contains (list_at members block) state → state < length blocks

-- a mark of no block
abbrev pub no_mark : Mark
no_mark = record { size = 0; hits = 0; goes = 0; waits = false }

-- where the marks say that a block goes
abbrev pub goes_of : List Mark → ℕ → ℕ
goes_of marks block = (slice_index_or marks block no_mark).goes

-- where a block goes: to one that is new since there were `old` ones, or it stays
abbrev pub goes_to : List Mark → ℕ → ℕ → ℕ
goes_to marks old block = if nat_lt block old && nat_le old (goes_of marks block) && nat_lt (goes_of marks block) (length marks) then goes_of marks block else block
