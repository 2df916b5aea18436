-- The kernel that is made by what is held of a description is the one by the description, and its text is reported.
use Rattle.std.proofs.Common.{◌≡◌, ℕ, suc, List, map, sym, ap, ◌∙◌, subst}
use Rattle.std.specs.List.{repeat}
use Rattle.hz_answer_model.proofs.WalkLaws.{map_twice}
use Rattle.hz_pipeline_model.specs.Tables.Machines.{Machine}
use Rattle.hz_block_model.specs.Dependences.Dependences.{Timing}
use Rattle.hz_block_model.specs.Running.Blocks.{Instruction}
use Rattle.hz_block_model.specs.Scheduling.Schedules.{Node, Slot, present}
use Rattle.hz_block_model.specs.Scheduled.BlockGraphs.{timing_in}
use Rattle.hz_check.specs.Checked.{IsCheckedOf}
use Rattle.hz_checked.specs.declared.checked.Checked.{Checked}
use Rattle.hz_depend.specs.declared.parts.Graph.{Graph}
use Rattle.hz_description_model.specs.Check.Places.{class_names}
use Rattle.hz_description_model.specs.Reading.Descriptions.{Description}
use Rattle.hz_modulo.specs.Costs as held
use Rattle.hz_measure_model.specs.Kernels.Kernels.{KernelSlot, kernel_slots}
use Rattle.hz_measure_model.specs.Kernels.KernelTexts.{text_of_slots, text_of_kernel}
use Rattle.hz_measure_model.specs.Kernels.Repeats.{timing_of_copies, IsKernel}
use Rattle.hz_measure_model.specs.Kernels.Turns.{stages}
use Rattle.hz_rtl.specs.Shape.{instruction, instructions}
use Rattle.hz_rtl.specs.declared.block.Block.{Block}
use Rattle.hz_sched.specs.Shape.{graph_of, node_of}
use Rattle.hz_tool.proofs.BlockLemmas.{timing_same}

module _ (d : Description) (checked : Checked) (is : IsCheckedOf d checked) (block : Block) (graph : Graph) where
  -- the timing of copies, by what is held
  same_copies : (count : ℕ) → held.timing_of_copies checked block graph count ≡ timing_of_copies d (instructions block) (graph_of graph) count
  same_copies count =
      timing_same d checked is (repeat count (map (λ i. i.class) graph.insns.items)) (repeat count (instructions block))
      ∙ ap (λ (classes : List ℕ). timing_in d (repeat count classes) (repeat count (instructions block))) (sym (map_twice (λ (n : Node). n.class) node_of graph.insns.items))

  pub kernel_is : (m : Machine) (slots : List Slot) (interval first second : ℕ) → IsKernel m (instructions block) (held.timing_of_copies checked block graph 3) (graph_of graph) slots interval first second
      → IsKernel m (instructions block) (timing_of_copies d (instructions block) (graph_of graph) 3) (graph_of graph) slots interval first second
  kernel_is m slots interval first second = subst (λ (t : Timing). IsKernel m (instructions block) t (graph_of graph) slots interval first second) (same_copies 3)

  pub kernel_reported : (names : List (List ℕ)) (slots : List Slot) (kernel : List KernelSlot) (interval count first second : ℕ) → names ≡ class_names d → map (λ i. i.number) graph.insns.items ≡ map (λ i. i.number) block.insns.items
      → kernel ≡ kernel_slots interval slots → count ≡ suc (stages interval slots)
      → text_of_slots names (map (λ i. i.number) graph.insns.items) (graph_of graph) kernel interval count first second (present 0 slots) ≡ text_of_kernel d (instructions block) (graph_of graph) slots interval first second
  kernel_reported names slots kernel interval count first second same numbers made counted =
      ap (λ (ns : List (List ℕ)). text_of_slots ns (map (λ i. i.number) graph.insns.items) (graph_of graph) kernel interval count first second (present 0 slots)) same
      ∙ (ap (λ (ns : List ℕ). text_of_slots (class_names d) ns (graph_of graph) kernel interval count first second (present 0 slots)) (numbers ∙ sym (map_twice (λ (i : Instruction). i.number) instruction block.insns.items))
      ∙ (ap (λ (xs : List KernelSlot). text_of_slots (class_names d) (map (λ i. i.number) (instructions block)) (graph_of graph) xs interval count first second (present 0 slots)) made
      ∙ ap (λ (n : ℕ). text_of_slots (class_names d) (map (λ i. i.number) (instructions block)) (graph_of graph) (kernel_slots interval slots) interval n first second (present 0 slots)) counted))
