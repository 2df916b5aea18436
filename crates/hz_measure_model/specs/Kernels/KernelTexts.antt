-- The text of a kernel, and which kernel of a block is reported: this profile, docs/FORMATS.md, 'Answers'.
use Rattle.std.specs.Prelude.{◌≡◌, ℕ, suc, List, [], ◌∷◌, ◌++◌, map, codes, decimal, slice_index, slice_index_or}
use Rattle.std.specs.List.{concat, flat_map}
use Rattle.hz_pipeline_model.specs.Compiling.Compiled.{Report, IsCompiled}
use Rattle.hz_description_model.specs.Check.CheckedParts.{automata_of, class_parts}
use Rattle.hz_description_model.specs.Check.Places.{Known, class_names}
use Rattle.hz_description_model.specs.Reading.Descriptions.{Description}
use Rattle.hz_block_model.specs.Running.Blocks.{Instruction}
use Rattle.hz_pipeline_model.specs.Tables.Machines.{Machine, IsMachine}
use Rattle.hz_block_model.specs.Scheduling.Schedules.{Graph, Slot, class_at, present}
use Rattle.hz_block_model.specs.Scheduled.BlockSchedules.{IsScheduleOf}
use Rattle.hz_measure_model.specs.Kernels.Kernels.{KernelSlot, kernel_slots}
use Rattle.hz_measure_model.specs.Kernels.Repeats.{timing_of_copies, IsKernel}
use Rattle.hz_measure_model.specs.Kernels.Turns.{stages}

-- the line of an instruction of a kernel: its cycle in the interval, its stage, and its number and class
abbrev pub kernel_line : ℕ → ℕ → ℕ → List ℕ → List ℕ
kernel_line offset stage number class = concat (decimal offset ∷ codes " " ∷ decimal stage ∷ codes " " ∷ decimal number ∷ codes " " ∷ class ∷ codes "\n" ∷ [])

-- the same, where these are the names of the classes and the numbers of the instructions
abbrev pub line_of_kernel : (names : List (List ℕ)) (numbers : List ℕ) → Graph → KernelSlot → List ℕ
line_of_kernel names numbers g x = kernel_line x.offset x.stage (slice_index numbers x.place) (slice_index_or names (class_at g x.place) [])

-- the beginning of a kernel: its interval, and how many stages there are
abbrev pub interval_lines : (interval stages : ℕ) → List ℕ
interval_lines interval stages = concat (codes "interval " ∷ decimal interval ∷ codes "\nstages " ∷ decimal stages ∷ codes "\n" ∷ [])

-- the end of a kernel: the two turns that start in the same states, and the last cycle of the schedule
abbrev pub edge_lines : (first second last : ℕ) → List ℕ
edge_lines first second last = concat (codes "edge " ∷ decimal first ∷ codes " equals edge " ∷ decimal second ∷ codes "\nlist " ∷ decimal last ∷ codes " cycles\n" ∷ [])

-- the text of a kernel of these slots, where the schedule ends at `last`
abbrev pub text_of_slots : (names : List (List ℕ)) (numbers : List ℕ) → Graph → List KernelSlot → (interval stages first second last : ℕ) → List ℕ
text_of_slots names numbers g kernel interval stages first second last =
    interval_lines interval stages ++ (flat_map (line_of_kernel names numbers g) kernel ++ edge_lines first second last)

-- the text of a kernel
abbrev pub kernel_text : (names : List (List ℕ)) (numbers : List ℕ) → Graph → List Slot → (interval first second : ℕ) → List ℕ
kernel_text names numbers g slots interval first second =
    text_of_slots names numbers g (kernel_slots interval slots) interval (suc (stages interval slots)) first second (present 0 slots)

-- the same of a block by its description
abbrev pub text_of_kernel : Description → List Instruction → Graph → List Slot → (interval first second : ℕ) → List ℕ
text_of_kernel d block g slots interval first second = kernel_text (class_names d) (map (λ i. i.number) block) g slots interval first second

-- The text is that of the kernel of a block: of its schedule by the description, over the machine that is compiled of it.
pub record IsKernelOf (d : Description) (known : Known) (block : List Instruction) (text : List ℕ) : Type 0 where
  pub g : Graph
  pub slots : List Slot
  pub scheduled : IsScheduleOf d known block g slots
  pub machine : Machine
  pub reports : List Report
  pub is_machine : IsMachine machine
  pub compiled : IsCompiled d.options (automata_of d) (map (class_parts d known) d.classes) machine reports
  pub interval : ℕ
  pub first : ℕ
  pub second : ℕ
  pub kernel : IsKernel machine block (timing_of_copies d block g 3) g slots interval first second
  pub tells : text ≡ text_of_kernel d block g slots interval first second
