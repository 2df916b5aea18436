-- One part of a machine by itself, and jumps over its cycles. These words are only to prove with.
use Rattle.std.specs.Prelude.{◌≡◌, ◌==◌, ◌⊎◌, ℕ, zero, suc, ◌+◌, ◌/◌, ◌%◌, ◌<◌, if◌then◌else◌, List, [], ◌∷◌, length, All, Option, Some, None, slice_index}
use Rattle.std.specs.Global.{Vec}
use Rattle.hz_pipeline_model.specs.Accepting.Events.{advance}
use Rattle.hz_pipeline_model.specs.Tables.Machines.{Part, Machine, part_at, parts_walk}

-- a machine with one of the parts alone
abbrev pub lane_of : Machine → ℕ → Machine
lane_of m part = record { classes = m.classes; parts = part_at m part ∷ [] }

-- how many states its part has
abbrev pub states_in : Machine → ℕ
states_in lane = length (part_at lane 0).rows

-- it has one of the parts of a machine alone
abbrev pub IsLaneOf : Machine → Machine → Type 0
IsLaneOf m lane = (part : ℕ) × ((part < length m.parts) × (lane ≡ lane_of m part))

-- By these states at the starts of turns, an issue is not taken before the states can have repeated: not before all stages have begun, or in
-- the interval after that, or in the next one after other states.
abbrev pub IsStuck : (ℕ → Option (List ℕ)) → ℕ → Type 0
IsStuck edge stages = (edge (stages + 1) ≡ None) ⊎ ((edge (stages + 2) ≡ None) × (edge stages ≡ edge (stages + 1) → ⊥))

-- ---- tables of jumps

-- each jump is to one of so many states, and there is one from each
pub record IsWithin (states : ℕ) (level : List ℕ) : Type 0 where
  pub long : length level ≡ states
  pub within : All (λ next. next < states) level

-- the state so many jumps later
abbrev pub jumped : List ℕ → ℕ → ℕ → ℕ
jumped top zero state = state
jumped top (suc jumps) state = jumped top jumps (slice_index top state)

-- the state so many cycles later, by tables over 1 cycle, 2, 4 and so on, and the top over twice as many as the last
abbrev pub landed : List (Vec ℕ) → List ℕ → ℕ → ℕ → ℕ
landed [] top cycles state = jumped top cycles state
landed (level ∷ levels) top cycles state = landed levels top (cycles / 2) (if cycles % 2 == 1 then slice_index level.items state else state)

-- For each state of a part the state so many cycles later.
pub record AreJumps (part : Part) (cycles : ℕ) (level : List ℕ) : Type 0 where
  pub is : IsWithin (length part.rows) level
  pub each : (state : ℕ) → state < length part.rows → parts_walk (part ∷ []) (state ∷ []) (advance cycles ∷ []) ≡ Some (slice_index level state ∷ [])

-- jumps over so many cycles, over twice as many, and so on, the last at the top
abbrev pub AreJumpsFrom : Part → ℕ → List (Vec ℕ) → List ℕ → Type 0
AreJumpsFrom part cycles [] top = AreJumps part cycles top
AreJumpsFrom part cycles (level ∷ levels) top = AreJumps part cycles level.items × AreJumpsFrom part (cycles + cycles) levels top
