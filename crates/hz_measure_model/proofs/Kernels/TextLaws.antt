-- A block has one text of its kernel, where one machine is compiled of a description.
use Rattle.std.proofs.Common.{◌≡◌, ℕ, suc, ◌<◌, List, ◌∷◌, map, length, All, refl, sym, ap, ◌∙◌, subst}
use Rattle.std.specs.Prelude.{slice_index, slice_index_or, [], ◌++◌}
use Rattle.std.specs.List.{flat_map, repeat}
use Rattle.std.proofs.lemmas.List.{length-map}
use Rattle.hz_description_model.specs.Reading.DescriptionShape.{IsCheckable}
use Rattle.hz_description_model.specs.Check.CheckFaults.{IsSound}
use Rattle.hz_block_model.specs.Scheduling.Machines.{Settles}
use Rattle.hz_block_model.specs.Scheduled.BlockSchedules.{IsScheduleOf}
use Rattle.hz_block_model.proofs.Settling.DescribedLaws.{legal_as_described}
use Rattle.hz_measure_model.proofs.Kernels.DescribedLaws.{has_kernel}
use Rattle.hz_measure_model.proofs.Kernels.RangeOfClasses.{classes_within}
use Rattle.hz_pipeline_model.specs.Compiling.Compiled.{Report, IsCompiled}
use Rattle.hz_description_model.specs.Check.CheckedParts.{automata_of, class_parts}
use Rattle.hz_description_model.specs.Check.Places.{Known, class_names}
use Rattle.hz_description_model.specs.Reading.Descriptions.{Description}
use Rattle.hz_block_model.specs.Running.Blocks.{Instruction}
use Rattle.hz_pipeline_model.specs.Tables.Machines.{Machine, IsMachine}
use Rattle.hz_block_model.specs.Scheduling.Schedules.{Graph, Slot, present}
use Rattle.hz_block_model.specs.Scheduled.BlockGraphs.{timing_in, classes_of}
use Rattle.hz_block_model.proofs.Scheduled.BlockLaws.{one_of_a_block}
use Rattle.hz_measure_model.specs.Kernels.Kernels.{KernelSlot, kernel_slots}
use Rattle.hz_measure_model.specs.Kernels.KernelTexts.{interval_lines, edge_lines, kernel_line, line_of_kernel, text_of_kernel, IsKernelOf}
use Rattle.hz_measure_model.specs.Kernels.Repeats.{timing_of_copies, IsKernel}
use Rattle.hz_measure_model.specs.Kernels.Turns.{stages}
use Rattle.hz_measure_model.proofs.Kernels.LeastLaws.{one_kernel}
use Rattle.hz_measure_model.proofs.Kernels.SameGraphs.{kernel_there}

module _ (d : Description) (known : Known) (block : List Instruction) where
  -- a machine that is compiled of the description
  abbrev IsMade : Machine → List Report → Type 0
  IsMade m reports = IsMachine m × IsCompiled d.options (automata_of d) (map (class_parts d known) d.classes) m reports

  -- the text asks for the classes of a graph alone
  same_text : (g h : Graph) (slots : List Slot) (interval first second : ℕ) → classes_of g ≡ classes_of h → text_of_kernel d block g slots interval first second ≡ text_of_kernel d block h slots interval first second
  same_text g h slots interval first second same = λ i. interval_lines interval (suc (stages interval slots)) ++ (each (kernel_slots interval slots) i ++ edge_lines first second (present 0 slots))
    where
      each : (xs : List KernelSlot) → flat_map (line_of_kernel (class_names d) (map (λ i. i.number) block) g) xs ≡ flat_map (line_of_kernel (class_names d) (map (λ i. i.number) block) h) xs
      each [] = refl
      each (x ∷ xs) = λ i. kernel_line x.offset x.stage (slice_index (map (λ i. i.number) block) x.place) (slice_index_or (class_names d) (slice_index (same i) x.place) []) ++ each xs i

  pub one_text : ((m n : Machine) (r s : List Report) → IsMade m r → IsMade n s → m ≡ n) → (s t : List ℕ) → IsKernelOf d known block s → IsKernelOf d known block t → s ≡ t
  one_text one_machine s t a b =
      let (classes, slots) = one_of_a_block d known block a.g b.g a.slots b.slots a.scheduled b.scheduled in
      let machine = one_machine a.machine b.machine a.reports b.reports (a.is_machine, a.compiled) (b.is_machine, b.compiled) in
      let there : IsKernel b.machine block (timing_of_copies d block b.g 3) a.g b.slots a.interval a.first a.second =
      transported classes slots machine a.kernel in
      let moved = kernel_there b.machine block (timing_of_copies d block b.g 3) a.g b.g b.slots classes a.interval a.first a.second there in
      let (interval, first, second) = one_kernel b.machine block (timing_of_copies d block b.g 3) b.g b.slots a.interval a.first a.second b.interval b.first b.second moved b.kernel in
      a.tells ∙ (same_text a.g b.g a.slots a.interval a.first a.second classes ∙ ((λ i. text_of_kernel d block b.g (slots i) (interval i) (first i) (second i)) ∙ sym b.tells))
    where
      transported : classes_of a.g ≡ classes_of b.g → a.slots ≡ b.slots → a.machine ≡ b.machine → IsKernel a.machine block (timing_of_copies d block a.g 3) a.g a.slots a.interval a.first a.second
          → IsKernel b.machine block (timing_of_copies d block b.g 3) a.g b.slots a.interval a.first a.second
      transported classes slots machine k =
          subst (λ (n : Machine). IsKernel n block (timing_of_copies d block b.g 3) a.g b.slots a.interval a.first a.second) machine
          (subst (λ (xs : List Slot). IsKernel a.machine block (timing_of_copies d block b.g 3) a.g xs a.interval a.first a.second) slots
          (subst (λ (cs : List ℕ). IsKernel a.machine block (timing_in d (repeat 3 cs) (repeat 3 block)) a.g a.slots a.interval a.first a.second) classes k))

-- a block with a schedule has a kernel on the machine that is compiled of the description, and so a text
pub some_text : (d : Description) (known : Known) (m : Machine) (reports : List Report) → IsCheckable d → IsSound d known → IsMachine m → IsCompiled d.options (automata_of d) (map (class_parts d known) d.classes) m reports → Settles m
    → (block : List Instruction) (g : Graph) (slots : List Slot) → IsScheduleOf d known block g slots → (text : List ℕ) × IsKernelOf d known block text
some_text d known m reports formed sound machine compiled settle block g slots scheduled =
    let graph = scheduled.graph in
    let ranges = classes_within d block g graph in
    let legal = (legal_as_described d known sound m reports compiled g ranges slots).1 scheduled.legal in
    let long : length m.classes ≡ length d.classes = ap length compiled.names ∙ (length-map (map (class_parts d known) d.classes) (λ c. c.name) ∙ length-map d.classes (class_parts d known)) in
    let k = has_kernel d m machine block g graph slots legal formed settle (subst (λ (n : ℕ). All (λ x. x.class < n) g.nodes) (sym long) ranges) in (
      text_of_kernel d block g slots k.0 k.1 k.2,
      record {
        g = g;
        slots = slots;
        scheduled = scheduled;
        machine = m;
        reports = reports;
        is_machine = machine;
        compiled = compiled;
        interval = k.0;
        first = k.1;
        second = k.2;
        kernel = k.3;
        tells = refl;
      },
    )
