-- The class of an instruction, and what latencies and bypasses say of classes. GCC Internals, 'Defining Insns' Attributes' and
-- 'Specifying processor pipeline description'; the faults are this profile's, docs/RULES.md, 'Dependences'.
use Rattle.std.specs.Prelude.{ℕ, ◌==◌, Bool, ◌&&◌, not, if◌then◌else◌, List, [], ◌∷◌, filter, codes, Option, Some, None, Result, Ok, Err, slice_index, unwrap_or}
use Rattle.std.specs.List.{list_any, find, filter_map, enumerate_from}
use Rattle.std.specs.Option.{option_map, option_map_or}
use Rattle.std.specs.Str.{bytes_eq}
use Rattle.hz_description_model.specs.Reading.Descriptions.{Condition}
use Rattle.hz_description_model.specs.Reading.Conditions.{value_of, holds}
use Rattle.hz_description_model.specs.Check.CheckedParts.{BypassParts}
use Rattle.hz_block_model.specs.Running.Blocks.{Instruction}
use Rattle.hz_block_model.specs.Dependences.Dependences.{Timing}
use Rattle.hz_block_model.specs.Dependences.Stores.{stores_data, stores_data_at}

-- What can be wrong with the class of an instruction.
pub data ClassFault : Type 0 where
  unknown_attribute unknown_value no_class : ClassFault
  ambiguous : (a b : ℕ) → ClassFault

-- the word by which a fault is reported: docs/FORMATS.md, 'Answers'
abbrev pub class_word : ClassFault → List ℕ
class_word unknown_attribute = codes "UnknownAttribute"
class_word unknown_value = codes "UnknownValue"
class_word no_class = codes "NoClass"
class_word (ambiguous a b) = codes "Ambiguous"

-- the classes that a fault names, by their numbers
abbrev pub classes_named : ClassFault → List ℕ
classes_named (ambiguous a b) = a ∷ b ∷ []
classes_named _ = []

-- what is wrong with an attribute that is given, among those that are defined with their values
abbrev pub fault_of_attribute : List (List ℕ × List (List ℕ)) → List ℕ × List ℕ → Option ClassFault
fault_of_attribute defined given = option_map_or (λ attribute. if list_any (λ v. bytes_eq v given.1) attribute.1 then None else Some unknown_value) (find (λ attribute. bytes_eq attribute.0 given.0) defined) (Some unknown_attribute)

-- the fault of the first that has one
abbrev pub first_fault : List (List ℕ × List (List ℕ)) → List (List ℕ × List ℕ) → Option ClassFault
first_fault defined [] = None
first_fault defined (given ∷ others) = first_of_two (fault_of_attribute defined given) (first_fault defined others)
  where
    first_of_two : Option ClassFault → Option ClassFault → Option ClassFault
    first_of_two (Some fault) later = Some fault
    first_of_two None later = later

-- the numbers of the conditions that hold, from a number on
abbrev pub holding_from : ℕ → (List ℕ → Option (List ℕ)) → List Condition → List ℕ
holding_from n value conditions = filter_map (λ c. if holds value c.1 then Some c.0 else None) (enumerate_from n conditions)

-- the one class whose condition holds
abbrev pub the_one : List ℕ → Result ℕ ClassFault
the_one [] = Err no_class
the_one (a ∷ []) = Ok a
the_one (a ∷ b ∷ others) = Err (ambiguous a b)

-- The class of an instruction that gives these attributes: the first wrong one of them decides, then the conditions of the classes.
abbrev pub class_of : (defined : List (List ℕ × List (List ℕ))) (defaults : List (List ℕ × List ℕ)) (conditions : List Condition) (given : List (List ℕ × List ℕ)) → Result ℕ ClassFault
class_of defined defaults conditions given = decide (first_fault defined given)
  where
    decide : Option ClassFault → Result ℕ ClassFault
    decide (Some fault) = Err fault
    decide None = the_one (holding_from 0 (value_of given defaults) conditions)

-- the number of the bypass of two classes: of one that lists the first among its outs and the second among its ins
abbrev pub bypass_between : List BypassParts → ℕ → ℕ → Option ℕ
bypass_between bypasses out in_ = option_map (λ b. b.number) (find (λ b. list_any (λ n. n == out) b.outs && list_any (λ n. n == in_) b.ins) bypasses)

-- the same of the bypasses with the guard, where the second instruction only stores what the first makes
abbrev pub guarded_between : List BypassParts → (is_store : Bool) → ℕ → ℕ → Option ℕ
guarded_between bypasses is_store out in_ = if is_store then bypass_between (filter (λ b. b.guard) bypasses) out in_ else None

-- the cycles of a true dependence between two classes: of a bypass with the guard where that is met, else of one without it, else
-- the latency
abbrev pub number_where : List BypassParts → (latency : ℕ) → (is_store : Bool) → ℕ → ℕ → ℕ
number_where bypasses latency is_store out in_ = unwrap_or (guarded_between bypasses is_store out in_) (unwrap_or (bypass_between (filter (λ b. not b.guard) bypasses) out in_) latency)

-- the same of two instructions of these classes
abbrev pub number_between : List BypassParts → (latency out in_ : ℕ) → (first second : Instruction) → ℕ
number_between bypasses latency out in_ first second = number_where bypasses latency (stores_data first second) out in_

-- The timing of a block whose instructions have these classes.
abbrev pub timing_of : (latencies : List ℕ) → List BypassParts → (classes : List ℕ) → (block : List Instruction) → Timing
timing_of latencies bypasses classes block = record {
  latency = λ i. slice_index latencies (slice_index classes i);
  number = λ i j. number_where bypasses (slice_index latencies (slice_index classes i)) (stores_data_at block i j) (slice_index classes i) (slice_index classes j);
}
