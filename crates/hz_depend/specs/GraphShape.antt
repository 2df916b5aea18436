-- What the code answers of a block, as what the definitions speak of.
use Rattle.std.specs.Prelude.{◌≡◌, ℕ, suc, ◌<◌, ◌≤◌, List, [], ◌∷◌, map, length, Option, Some, None, Result, Ok, Err, slice_index, All}
use Rattle.hz_description_model.specs.Reading.Limits.{latency_limit}
use Rattle.hz_rtl.specs.declared.block.Block.{Block}
use Rattle.hz_rtl.specs.declared.block.Insn.{Insn}
use Rattle.hz_rtl.specs.Shape.{instructions}
use Rattle.hz_checked.specs.declared.checked.Checked.{Checked}
use Rattle.hz_checked.specs.Shape.{bypass_of}
use Rattle.hz_depend.specs.declared.parts.Graph.{Graph}
use Rattle.hz_depend.specs.declared.parts.Edge.{Edge}
use Rattle.hz_depend.specs.declared.fault.DependFault.{DependFault}
use Rattle.hz_depend.specs.declared.fault.DependFault.TheVariants.{Class, NoMemory}
use Rattle.hz_depend.specs.Faults.{fault}
use Rattle.hz_depend.specs.Shape.{class_for}
use Rattle.hz_block_model.specs.Dependences.Classes.{ClassFault, timing_of}
use Rattle.hz_block_model.specs.Dependences.Dependences.{Timing}
use Rattle.hz_block_model.specs.Running.Blocks.{Instruction}
use Rattle.hz_block_model.specs.Dependences.Graphs as model
use Rattle.hz_block_model.specs.Running.Limits.{instruction_limit}

abbrev pub edge_of : Edge → model.Edge
edge_of e = record { from = e.from; to = e.to; cost = e.cost }

-- the latencies of the classes of a description
abbrev pub latencies_of : Checked → List ℕ
latencies_of checked = map (λ c. c.latency) checked.classes.items

-- the timing of a block whose instructions have these classes
abbrev pub timing_in : Checked → List ℕ → List Instruction → Timing
timing_in checked classes block = timing_of (latencies_of checked) (map bypass_of checked.bypasses.items) classes block

-- The dependence graph of a block by a description.
pub record IsGraphOf (checked : Checked) (block : Block) (graph : Graph) : Type 0 where
  pub numbers : map (λ i. i.number) graph.insns.items ≡ map (λ i. i.number) block.insns.items
  pub lines : map (λ i. i.line) graph.insns.items ≡ map (λ i. i.line) block.insns.items
  -- the class of each instruction
  pub classes : map (λ i. Ok i.class) graph.insns.items ≡ map (class_for checked) block.insns.items
  -- the latency of its class
  pub latencies : map (λ i. i.latency) graph.insns.items ≡ map (λ i. slice_index (latencies_of checked) i.class) graph.insns.items
  -- exactly one edge for each dependence, with its cost, and no other
  pub edges : model.IsGraph (instructions block) (timing_in checked (map (λ i. i.class) graph.insns.items) (instructions block)) (map edge_of graph.edges.items)
  pub heights : (i : ℕ) → i < length graph.insns.items → model.IsHeight (map edge_of graph.edges.items) (map (λ i. i.latency) graph.insns.items) (map (λ i. i.height) graph.insns.items) i

-- What a list scheduler asks of a graph: few instructions, classes in range, edges that lead upwards, and no cost or latency that
-- is too great.
pub record IsSchedulable (class_count : ℕ) (graph : Graph) : Type 0 where
  pub few : length graph.insns.items ≤ instruction_limit
  pub classes : All (λ i. i.class < class_count) graph.insns.items
  pub latencies : All (λ i. i.latency ≤ latency_limit) graph.insns.items
  pub edges : All (λ e. (e.from < e.to) × (e.to < length graph.insns.items) × (e.cost ≤ latency_limit)) graph.edges.items

-- the place and the fault, where the class of an instruction is wrong
abbrev pub class_fault_in : Result Graph DependFault → Option (ℕ × ClassFault)
class_fault_in (Ok graph) = None
class_fault_in (Err (Class place wrong)) = Some (place, fault wrong)
class_fault_in (Err NoMemory) = None

-- the place of the first instruction whose class is wrong, from a number on, and what is wrong
abbrev pub first_class_fault : ℕ → Checked → List Insn → Option (ℕ × ClassFault)
first_class_fault n checked [] = None
first_class_fault n checked (i ∷ insns) = decide (class_for checked i) (first_class_fault (suc n) checked insns)
  where
    decide : Result ℕ ClassFault → Option (ℕ × ClassFault) → Option (ℕ × ClassFault)
    decide (Err e) later = Some (n, e)
    decide (Ok class) later = later
