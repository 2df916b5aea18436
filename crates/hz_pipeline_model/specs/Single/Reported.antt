-- What two reports have in common that are reported of one machine. Grids are sets of pairs.
use Rattle.std.specs.Prelude.{◌≡◌, ℕ, ◌<◌, List, [], None, MatchOption, IsSomeAnd, All, length, slice_index_or}
use Rattle.std.specs.Option.{ForSome}
use Rattle.std.specs.Ordering.{nat_cmp}
use Rattle.hz_base_model.specs.Pairs.{IsAscendingBy}
use Rattle.hz_pipeline_model.specs.Reaching.Reach.{SameGrids}
use Rattle.hz_pipeline_model.specs.Compiling.Compiled.{Shown, Report, report_at}

-- The same places where states are read first, and for each state the same grids, as sets of pairs.
pub record ShowTheSame (one other : Shown) : Type 0 where
  pub parents : one.parents ≡ other.parents
  pub each : length one.states ≡ length other.states
  pub states : (state : ℕ) → state < length one.states → SameGrids (slice_index_or one.states state []) (slice_index_or other.states state [])

-- The same counts, and the same of each state, or nothing in both.
pub record TellTheSame (one other : Report) : Type 0 where
  pub grids : one.grids ≡ other.grids
  pub states : one.states ≡ other.states
  pub members : one.members ≡ other.members
  pub shown : MatchOption one.shown (other.shown ≡ None) (λ shown. IsSomeAnd other.shown (ShowTheSame shown))

-- reports of as many automata tell the same of each
pub record AllTellTheSame (reports others : List Report) : Type 0 where
  pub each : length reports ≡ length others
  pub reported : (a : ℕ) → a < length reports → TellTheSame (report_at reports a) (report_at others a)

-- each grid that is shown is listed the one way
abbrev pub ListsAscending : Report → Type 0
ListsAscending report = ForSome report.shown (λ shown. All (λ grids. All (IsAscendingBy nat_cmp) grids) shown.states)
