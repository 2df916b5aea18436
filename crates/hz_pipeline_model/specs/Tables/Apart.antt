-- States that events tell apart. Bala and Rubin, 'Efficient Instruction Scheduling Using Finite State Automata',
-- MICRO-28; GCC Internals, 'Specifying processor pipeline description', on `no-minimization`.
use Rattle.std.specs.Prelude.{◌≡◌, ◌≢◌, ℕ, ◌<◌, List, Some, is_some, length}
use Rattle.hz_pipeline_model.specs.Tables.Tables.{Table, walk}

-- Some list of columns, those of asks and the advance among them, is walked to its end from exactly one of two states.
-- A number that is no column is walked from neither.
pub record Apart (table : Table) (one other : ℕ) : Type 0 where
  pub word : List ℕ
  pub once : is_some (walk table (Some one) word) ≢ is_some (walk table (Some other) word)

-- any two states are apart
pub record AllApart (table : Table) : Type 0 where
  pub apart : (one other : ℕ) → one < length table → other < length table → one ≢ other → Apart table one other

-- the same lists of columns are walked to their ends, from the start of each table
pub record WalkTheSame (first second : Table) : Type 0 where
  pub same : (w : List ℕ) → is_some (walk first (Some 0) w) ≡ is_some (walk second (Some 0) w)
