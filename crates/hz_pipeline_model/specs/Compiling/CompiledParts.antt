-- What a compiled automaton is: which events its part walks, what its states stand for, and how they are numbered.
-- Bala and Rubin, 'Efficient Instruction Scheduling Using Finite State Automata', MICRO-28; this profile, docs/RULES.md.
use Rattle.std.specs.Prelude.{◌≡◌, ◌↔◌, ℕ, ◌<◌, Bool, List, IsSome, length, All, if◌then◌else◌, true, slice_get, ◌+◌, Some}
use Rattle.hz_base_model.specs.Pairs.{Pair}
use Rattle.hz_pipeline_model.specs.Accepting.Events.{Event, IsOfClass}
use Rattle.hz_pipeline_model.specs.Accepting.Replay.{Pipeline, Accepted}
use Rattle.hz_pipeline_model.specs.Tables.StateLimits.{grid_limit, state_limit, member_limit, cell_limit, shown_limit, shown_member_limit}
use Rattle.hz_pipeline_model.specs.Tables.Tables.{IsReached}
use Rattle.hz_pipeline_model.specs.Tables.Machines.{Part, part_walk, advance_of, tells_reserved}
use Rattle.hz_pipeline_model.specs.Tables.Orders.{IsBreadthFirst}
use Rattle.hz_pipeline_model.specs.Reaching.Reach.{IsLeft, SameGrids}
use Rattle.hz_pipeline_model.specs.Reaching.Counts.{Count, grids, states, members, cells, CountIsAbove, CountIsAtMost}
use Rattle.hz_pipeline_model.specs.Compiling.ClassColumns.{IsColumns}
use Rattle.hz_pipeline_model.specs.Accepting.Asking.{IsHeld}

-- The part walks from its start exactly the events that the pipeline of so many classes accepts.
pub record WalksAccepted {U : Type 0} (classes : ℕ) (m : Pipeline U) (part : Part) : Type 0 where
  pub walks : (t : List Event) → All (IsOfClass classes) t → IsSome (part_walk part 0 t) ↔ Accepted m t

-- Two accepted lists of events end in one state exactly where they leave the same grids: what `no-minimization` keeps.
pub record TellsWhatIsLeft {U : Type 0} (classes : ℕ) (m : Pipeline U) (part : Part) : Type 0 where
  pub one : (t u : List Event) (xs ys : List (List (Pair U))) → All (IsOfClass classes) t → All (IsOfClass classes) u → IsLeft m t xs → IsLeft m u ys → Accepted m t → Accepted m u
      → (part_walk part 0 t ≡ part_walk part 0 u) ↔ SameGrids xs ys

-- The part tells what is reserved in the present cycle: after the events that it walks the entry of a query is there exactly
-- where its unit is held.
pub record TellsWhatIsHeld {U : Type 0} (classes : ℕ) (m : Pipeline U) (queries : List U) (part : Part) : Type 0 where
  pub held : (t : List Event) (state query : ℕ) (unit : U) → All (IsOfClass classes) t → part_walk part 0 t ≡ Some state → slice_get queries query ≡ Some unit → (tells_reserved part state query ≡ true) ↔ IsHeld m t unit

-- each state is reached, and they are numbered breadth-first
pub record IsNumbered (part : Part) : Type 0 where
  pub reached : (state : ℕ) → state < length part.rows → IsReached part.rows state
  pub parents : List (ℕ × ℕ)
  pub breadth_first : IsBreadthFirst part.rows (advance_of part) parents

-- the number of different lists, which is that of the columns
abbrev pub HasColumns : List (List (List (Pair ℕ))) → ℕ → Type 0
HasColumns lists n = (columns : List (List (List (Pair ℕ)))) × (map : List ℕ) × IsColumns lists columns map × (length columns ≡ n)

-- The limits of a count: smaller ones where each state's reservations are to be shown.
abbrev pub cap_of : (shown : Bool) → Count → ℕ
cap_of shown grids = if shown then shown_limit else grid_limit
cap_of shown states = if shown then shown_limit else state_limit
cap_of shown members = if shown then shown_member_limit else member_limit
cap_of shown cells = cell_limit

-- Every count of an automaton with these lists and so many query units, each with a column of its own, is within its limit.
pub record IsWithinLimits {U : Type 0} (shown : Bool) (lists : List (List (List (Pair ℕ)))) (queries : ℕ) (m : Pipeline U) : Type 0 where
  pub columns : ℕ
  pub has : HasColumns lists columns
  pub counts : (kind : Count) → CountIsAtMost m (columns + queries) kind (cap_of shown kind)

-- the count of this kind is above its limit
pub record IsPastLimit {U : Type 0} (shown : Bool) (lists : List (List (List (Pair ℕ)))) (queries : ℕ) (m : Pipeline U) (kind : Count) : Type 0 where
  pub columns : ℕ
  pub has : HasColumns lists columns
  pub above : CountIsAbove m (columns + queries) kind (cap_of shown kind)
