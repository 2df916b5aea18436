-- Heights of the states of a part of a machine. They bound the interval of a kernel from below: law
-- `no_interval_below_heights_repeats`. This profile, docs/RULES.md, 'Kernels of loops'.
use Rattle.std.specs.Prelude.{◌≡◌, ℕ, ◌+◌, ◌≤◌, List, Some, None}
use Rattle.std.specs.List.{Contains}
use Rattle.hz_pipeline_model.specs.Tables.Machines.{Part, next_of}

-- An issue of one of these classes raises the state by the weight of the class or more, and a cycle lowers it by the share or less. No
-- state is higher than the top.
pub record AreHeights (part : Part) (classes : List ℕ) (weight : ℕ → ℕ) (share : ℕ) (height : ℕ → ℕ) : Type 0 where
  pub raised : (state next class : ℕ) → Contains classes class → next_of part state (Some class) ≡ Some next → height state + weight class ≤ height next
  pub lowered : (state next : ℕ) → next_of part state None ≡ Some next → height state ≤ height next + share
  pub top : ℕ
  pub below : (state : ℕ) → height state ≤ top
