-- The cycles in which instructions take a unit that they can't do without: this profile, docs/RULES.md, 'Lower bounds'. Law:
-- `a_load_is_as_great_as_counting_gives`.
use Rattle.std.specs.Prelude.{ℕ, ◌<◌, List}
use Rattle.std.specs.List.{Contains}
use Rattle.hz_measure_model.specs.Bounds.Loads.{force}

-- An instruction of a class among these can't do without the unit, and an alternative of it takes the unit in this cycle after its issue.
pub record TakesAt (taken : ℕ → List (List ℕ)) (classes : List ℕ) (c : ℕ) : Type 0 where
  pub class : ℕ
  pub way : List ℕ
  pub there : Contains classes class
  pub some : 0 < force taken class
  pub taken_so : Contains (taken class) way
  pub at : Contains way c
