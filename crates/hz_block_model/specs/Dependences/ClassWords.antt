-- Of which class an instruction is, and by which bypass a true dependence goes, in the words of the rules. Laws:
-- `class_is_the_one_that_holds`, `numbers_are_of_bypasses`.
use Rattle.std.specs.Prelude.{◌≡◌, ℕ, Bool, true, List, Option, Some, slice_get}
use Rattle.std.specs.List.{Contains}
use Rattle.hz_description_model.specs.Reading.Descriptions.{Condition}
use Rattle.hz_description_model.specs.Reading.Conditions.{holds}
use Rattle.hz_description_model.specs.Check.CheckFaults.{IsFirst}
use Rattle.hz_description_model.specs.Check.CheckedParts.{BypassParts}
use Rattle.hz_block_model.specs.Running.Blocks.{Instruction}
use Rattle.hz_block_model.specs.Dependences.Stores.{StoresData}

-- An attribute that is given is defined, and its value is one of those that the first definition of the name has.
pub record IsRight (defined : List (List ℕ × List (List ℕ))) (given : List ℕ × List ℕ) : Type 0 where
  pub attribute : List ℕ × List (List ℕ)
  pub first : IsFirst (λ a. a.0 ≡ given.0) defined attribute
  pub value : Contains attribute.1 given.1

-- the condition of this class holds
pub record Holds (value : List ℕ → Option (List ℕ)) (conditions : List Condition) (class : ℕ) : Type 0 where
  pub condition : Condition
  pub stands : slice_get conditions class ≡ Some condition
  pub passes : holds value condition ≡ true

-- the condition of this class holds, and that of no other
pub record IsOnlyClass (value : List ℕ → Option (List ℕ)) (conditions : List Condition) (class : ℕ) : Type 0 where
  pub is : Holds value conditions class
  pub others : (k : ℕ) → Holds value conditions k → k ≡ class

-- A bypass that lists two classes, the first among its outs and the second among its ins, and that has the guard or has none.
pub record Lists (guard : Bool) (out in_ : ℕ) (b : BypassParts) : Type 0 where
  pub has : b.guard ≡ guard
  pub from : Contains b.outs out
  pub to : Contains b.ins in_

-- The instruction at the second of two places of a block only stores what the one at the first makes.
pub record StoresAt (block : List Instruction) (i j : ℕ) : Type 0 where
  pub first : Instruction
  pub second : Instruction
  pub at_first : slice_get block i ≡ Some first
  pub at_second : slice_get block j ≡ Some second
  pub stores : StoresData first second
