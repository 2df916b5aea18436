-- Heights of states, and intervals that leave room for them. These words are only to prove with.
use Rattle.std.specs.Prelude.{◌≡◌, ℕ, ◌+◌, ◌*◌, ◌<◌, ◌≤◌, List, length, All, Some, None, slice_index, sum_by}
use Rattle.std.specs.List.{Contains}
use Rattle.hz_pipeline_model.specs.Tables.Machines.{Part, Machine, next_of}
use Rattle.hz_measure_model.specs.Kernels.Heights.{AreHeights}

-- Where a class can be issued at a state, it raises it by its weight.
pub record IsRaised (part : Part) (weights heights : List ℕ) (state class : ℕ) : Type 0 where
  pub up : (next : ℕ) → next_of part state (Some class) ≡ Some next → slice_index heights state + slice_index weights class ≤ slice_index heights next

-- A cycle lowers a state by no more than the share.
pub record IsLowered (part : Part) (share : ℕ) (heights : List ℕ) (state : ℕ) : Type 0 where
  pub down : (next : ℕ) → next_of part state None ≡ Some next → slice_index heights state ≤ slice_index heights next + share

-- That of the states below a number.
pub record AreHighTo (part : Part) (classes weights : List ℕ) (share : ℕ) (heights : List ℕ) (states : ℕ) : Type 0 where
  pub raised : (state : ℕ) → state < states → All (IsRaised part weights heights state) classes
  pub lowered : (state : ℕ) → state < states → IsLowered part share heights state

-- and of all states
abbrev pub AreHigh : (part : Part) (classes weights : List ℕ) (share : ℕ) (heights : List ℕ) → Type 0
AreHigh part classes weights share heights = AreHighTo part classes weights share heights (length part.rows)

-- An interval leaves room for these classes in each part, whatever heights its states have.
pub record LeavesRoom (m : Machine) (classes : List ℕ) (interval : ℕ) : Type 0 where
  pub room : (part : Part) → Contains m.parts part → (weight : ℕ → ℕ) (share : ℕ) (height : ℕ → ℕ) → AreHeights part classes weight share height → sum_by weight classes ≤ share * interval

-- No interval below this one leaves room.
pub record IsLow (m : Machine) (classes : List ℕ) (least : ℕ) : Type 0 where
  pub low : (interval : ℕ) → LeavesRoom m classes interval → least ≤ interval
