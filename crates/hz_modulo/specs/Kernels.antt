-- What is answered: the kernel of a block, by its graph and its schedule.
use Rattle.std.specs.Prelude.{◌≡◌, ℕ, suc, ◌<◌, ◌≤◌, List, map, length, All}
use Rattle.hz_pipeline_model.specs.Tables.Machines as model
use Rattle.hz_block_model.specs.Scheduling.Schedules as model_of
use Rattle.hz_measure_model.specs.Kernels.Kernels.{kernel_slots}
use Rattle.hz_measure_model.specs.Kernels.Repeats.{IsKernel}
use Rattle.hz_measure_model.specs.Kernels.Turns.{stages}
use Rattle.hz_tables.specs.declared.machine.Machine.{Machine}
use Rattle.hz_tables.specs.Machines.{machine_of}
use Rattle.hz_checked.specs.declared.checked.Checked.{Checked}
use Rattle.hz_rtl.specs.declared.block.Block.{Block}
use Rattle.hz_rtl.specs.Shape.{instructions}
use Rattle.hz_depend.specs.declared.parts.Graph.{Graph}
use Rattle.hz_sched.specs.declared.parts.Slot.{Slot}
use Rattle.hz_sched.specs.Shape.{graph_of, slots_of}
use Rattle.hz_modulo.specs.Walking.{kernel_slot_of}
use Rattle.hz_modulo.specs.Walking as walking
use Rattle.hz_modulo.specs.Heights.{LeavesRoom}
use Rattle.hz_modulo.specs.Repeating.{RepeatsBy}
use Rattle.hz_modulo.specs.Costs.{timing_of_copies}
use Rattle.hz_modulo.specs.declared.parts.Kernel.{Kernel}

-- The kernel of a block by its graph, over the machine of the description that was checked, where these are the slots of the
-- block's schedule.
pub record IsKernelOf (machine : Machine) (checked : Checked) (block : Block) (graph : Graph) (slots : List Slot) (k : Kernel) : Type 0 where
  -- the least interval that repeats, and the first two starts with the same states
  pub least : IsKernel (machine_of machine) (instructions block) (timing_of_copies checked block graph 3) (graph_of graph) (slots_of slots) k.interval k.first_edge k.second_edge
  -- how many stages there are, with the first
  pub stages_are : k.stages ≡ suc (stages k.interval (slots_of slots))
  -- the slots by offset, and in one offset the older turn first
  pub slots_are : map kernel_slot_of k.slots.items ≡ kernel_slots k.interval (slots_of slots)

-- what is written has a place in the graph
abbrev pub IsInRange : Graph → Kernel → Type 0
IsInRange graph k = All (λ x. x.place < length graph.insns.items) k.slots.items

-- ---- the search. These words are only to prove with.

-- the turns of a schedule repeat at an interval
abbrev pub RepeatsIn : (m : model.Machine) (g : model_of.Graph) (slots : List model_of.Slot) (interval first second : ℕ) → Type 0
RepeatsIn m g slots interval = RepeatsBy m g interval (stages interval slots) (kernel_slots interval slots)

-- The kernel of a schedule at an interval that repeats.
pub record IsKernelAt (m : model.Machine) (g : model_of.Graph) (slots : List model_of.Slot) (interval : ℕ) (k : Kernel) : Type 0 where
  pub at : k.interval ≡ interval
  pub repeats : RepeatsIn m g slots interval k.first_edge k.second_edge
  pub stages_are : k.stages ≡ suc (stages interval slots)
  pub slots_are : map kernel_slot_of k.slots.items ≡ kernel_slots interval slots

-- It is at the first interval from one on that repeats.
pub record IsFirstFrom (m : model.Machine) (g : model_of.Graph) (slots : List model_of.Slot) (first : ℕ) (k : Kernel) : Type 0 where
  pub from : first ≤ k.interval
  pub is : IsKernelAt m g slots k.interval k
  pub none : (shorter : ℕ) → first ≤ shorter → shorter < k.interval → (a b : ℕ) → RepeatsIn m g slots shorter a b → ⊥

-- It is at the first from one on that repeats, of those that leave room for what turns ask.
pub record IsRoomyFrom (m : model.Machine) (classes : List ℕ) (slots : List model_of.Slot) (first : ℕ) (k : Kernel) : Type 0 where
  pub from : first ≤ k.interval
  pub is : IsKernelAt m (walking.graph_of classes) slots k.interval k
  pub none : (shorter : ℕ) → first ≤ shorter → shorter < k.interval → LeavesRoom m classes shorter → (a b : ℕ) → RepeatsIn m (walking.graph_of classes) slots shorter a b → ⊥
