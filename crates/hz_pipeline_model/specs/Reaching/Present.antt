-- Units of the present cycle: what the grid of a state has in cycle 0. GCC Internals, 'Specifying processor pipeline
-- description', on `define_query_cpu_unit`.
use Rattle.std.specs.Prelude.{◌≡◌, ℕ, ◌<◌, nat_eq, Bool, List, [], ◌∷◌, Contains, length, slice_index}
use Rattle.std.specs.Bool.{Decides}
use Rattle.hz_base_model.specs.Pairs.{Pair}
use Rattle.hz_pipeline_model.specs.Accepting.Plays.{has}
use Rattle.hz_pipeline_model.specs.Reaching.Built.{grid_at, set_at, state_at}

-- the grid has the unit in its present cycle
abbrev pub HasPresent : {U : Type 0} → List (Pair U) → U → Type 0
HasPresent grid unit = Contains grid (record { unit = unit; cycle = 0 })

-- For each query and each state of one grid, the mark is true exactly where the grid has the query's unit in its
-- present cycle.
pub record MarksPresent (grids : List (List (Pair ℕ))) (sets : List (List ℕ)) (queries : List ℕ) (marks : ℕ → ℕ → Bool) : Type 0 where
  pub present : (state query : ℕ) (grid : List (Pair ℕ)) → state < length sets → query < length queries → state_at grids sets state ≡ grid ∷ [] → Decides (marks state query) (HasPresent grid (slice_index queries query))

-- whether the grid has the unit in its present cycle
abbrev pub has_present : List (Pair ℕ) → ℕ → Bool
has_present grid unit = has nat_eq grid (record { unit = unit; cycle = 0 })

-- the grid of a state that has one
abbrev pub one_grid : List (List (Pair ℕ)) → List (List ℕ) → ℕ → List (Pair ℕ)
one_grid grids sets state = grid_at grids (slice_index (set_at sets state) 0)

-- the marks of the queries, as a computation
abbrev pub marks_of : List (List (Pair ℕ)) → List (List ℕ) → List ℕ → ℕ → ℕ → Bool
marks_of grids sets queries state query = has_present (one_grid grids sets state) (slice_index queries query)
