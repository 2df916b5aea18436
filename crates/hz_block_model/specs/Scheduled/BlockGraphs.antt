-- What a description makes of a block: the classes of its instructions, and its dependence graph. GCC Internals, 'Defining Insns'
-- Attributes' and 'Specifying processor pipeline description'; this profile, docs/RULES.md, 'Dependences'.
use Rattle.std.specs.Prelude.{◌≡◌, ℕ, ◌<◌, List, ◌∷◌, ◌++◌, map, length, All, Result, Ok, Err, slice_index}
use Rattle.hz_description_model.specs.Reading.Descriptions.{Description}
use Rattle.hz_description_model.specs.Check.CheckedParts.{attributes_of, defaults_of, bypass_parts}
use Rattle.hz_block_model.specs.Running.Blocks.{Instruction}
use Rattle.hz_block_model.specs.Dependences.Classes.{ClassFault, class_of, timing_of}
use Rattle.hz_block_model.specs.Dependences.Dependences.{Timing}
use Rattle.hz_block_model.specs.Dependences.Graphs.{IsGraph, IsHeight}
use Rattle.hz_block_model.specs.Scheduling.Schedules.{Graph}

-- the class of an instruction, or what is wrong with it
abbrev pub class_in : Description → Instruction → Result ℕ ClassFault
class_in d i = class_of (attributes_of d) (defaults_of d) (map (λ c. c.condition) d.classes) i.attributes

-- The first instruction of a block whose class is wrong, and what is wrong with it.
pub record IsFirstClassFault (d : Description) (block : List Instruction) (i : Instruction) (fault : ClassFault) : Type 0 where
  pub before : List Instruction
  pub after : List Instruction
  pub parts : block ≡ before ++ i ∷ after
  pub good : All (λ j. (class : ℕ) × (class_in d j ≡ Ok class)) before
  pub wrong : class_in d i ≡ Err fault

-- the latencies of the classes
abbrev pub latencies_in : Description → List ℕ
latencies_in d = map (λ c. c.latency) d.classes

-- the latencies of the instructions of a block, which have these classes, and the cycles of a true dependence between two of them,
-- by the bypasses
abbrev pub timing_in : Description → List ℕ → List Instruction → Timing
timing_in d classes block = timing_of (latencies_in d) (map (bypass_parts d) d.bypasses) classes block

-- the classes of a graph's instructions
abbrev pub classes_of : Graph → List ℕ
classes_of g = map (λ n. n.class) g.nodes

-- The dependence graph of a block: the class of each instruction, exactly one edge for each dependence, with its cost, and heights.
pub record IsGraphOf (d : Description) (block : List Instruction) (g : Graph) : Type 0 where
  pub classes : map Ok (classes_of g) ≡ map (class_in d) block
  pub edges : IsGraph block (timing_in d (classes_of g) block) g.edges
  pub heights : (i : ℕ) → i < length g.nodes → IsHeight g.edges (map (slice_index (latencies_in d)) (classes_of g)) (map (λ n. n.height) g.nodes) i
