-- The kernel of a body has one text, and every body with a schedule has some; and its turns keep what they should.
use Rattle.std.proofs.Common.{◌≡◌, ℕ, List, length, map}
use Rattle.std.specs.List.{repeat}
use Rattle.hz_description_model.specs.Check.CheckFaults.{IsSound}
use Rattle.hz_description_model.specs.Check.CheckedParts.{automata_of, class_parts, bypass_parts, attributes_of}
use Rattle.hz_description_model.proofs.Check.KeptLaws.{parts_kept}
use Rattle.hz_description_model.specs.Check.Places.{Known}
use Rattle.hz_description_model.specs.Reading.Descriptions.{Description}
use Rattle.hz_description_model.specs.Reading.DescriptionShape.{IsCheckable}
use Rattle.hz_pipeline_model.specs.Accepting.Replay.{Accepted}
use Rattle.hz_pipeline_model.specs.Pipelines.Pipelines.{pipeline_with}
use Rattle.hz_pipeline_model.specs.Compiling.Compiled.{Report, IsCompiled}
use Rattle.hz_pipeline_model.specs.Tables.Machines.{Machine, IsMachine, IsWalked}
use Rattle.hz_pipeline_model.proofs.Single.MachineLaws.{one_machine}
use Rattle.hz_block_model.specs.Running.Blocks.{Instruction}
use Rattle.hz_block_model.specs.Running.States.{State, run}
use Rattle.hz_block_model.specs.Scheduling.Schedules.{Graph, Slot, Legal, places}
use Rattle.hz_block_model.specs.Scheduled.BlockGraphs.{IsGraphOf}
use Rattle.hz_block_model.specs.Scheduled.BlockSchedules.{IsScheduleOf}
use Rattle.hz_block_model.proofs.Settling.DescribedLaws.{legal_as_described}
use Rattle.hz_block_model.proofs.Settling.SettleLaws.{machine_settles}
use Rattle.hz_measure_model.proofs.Kernels.DescribedLaws.{accepted_legal, turns_leave}
use Rattle.hz_measure_model.proofs.Kernels.RangeOfClasses.{classes_within}
use Rattle.hz_measure_model.proofs.Kernels.TextLaws.{one_text, some_text}
use Rattle.hz_measure_model.specs.Kernels.KernelTexts.{IsKernelOf}
use Rattle.hz_measure_model.specs.Kernels.Turns.{turns, run_times}
use Rattle.hz_description_model.proofs.Check.QueryLaws.{asks_nothing}

pub one_kernel_text : (d : Description) (known : Known) (body : List Instruction) (s t : List ℕ) → IsKernelOf d known body s → IsKernelOf d known body t → s ≡ t
one_kernel_text d known body s t one other =
    one_text d known body (λ m n r o is also. one_machine d.options (automata_of d) (map (class_parts d known) d.classes) m n r o is.0 also.0 is.1 also.1) s t one other

pub some_kernel_text : (d : Description) (known : Known) (m : Machine) (reports : List Report) → IsCheckable d → IsSound d known → IsMachine m → IsCompiled d.options (automata_of d) (map (class_parts d known) d.classes) m reports
    → (body : List Instruction) (g : Graph) (slots : List Slot) → IsScheduleOf d known body g slots → (text : List ℕ) × IsKernelOf d known body text
some_kernel_text d known m reports formed sound is compiled body g slots scheduled =
    some_text d known m reports formed sound is compiled
    (machine_settles d.options (automata_of d) (map (class_parts d known) d.classes) (map (bypass_parts d) d.bypasses) (attributes_of d) (parts_kept d known formed sound) (asks_nothing d known sound) m reports is compiled)
    body g slots scheduled

-- The kernel of a body that is reported.
module _ (d : Description) (known : Known) (sound : IsSound d known) (body : List Instruction) (text : List ℕ) (is : IsKernelOf d known body text) where
  legal : Legal (IsWalked is.machine) is.g is.slots
  legal = (legal_as_described d known sound is.machine is.reports is.compiled is.g (classes_within d body is.g is.scheduled.graph) is.slots).1 is.scheduled.legal

  -- so many turns are a legal schedule of so many copies of the body
  pub turns_legal : (count : ℕ) (h : Graph) → IsGraphOf d (repeat count body) h → Legal (Accepted (pipeline_with d known)) h (turns (length body) is.interval is.slots count)
  turns_legal count h copies =
      accepted_legal d is.machine is.is_machine body is.g is.scheduled.graph is.slots legal is.interval is.first is.second is.kernel.some is.kernel.repeats count h copies known sound is.reports is.compiled (classes_within d (repeat count body) h copies)

  -- they leave what the body leaves, so many times
  pub turns_leave_times : (count : ℕ) (h : Graph) → IsGraphOf d (repeat count body) h → (state : State) → run (repeat count body) (places (turns (length body) is.interval is.slots count)) state ≡ run_times body count state
  turns_leave_times count h copies =
      turns_leave d is.machine is.is_machine body is.g is.scheduled.graph is.slots legal is.interval is.first is.second is.kernel.some is.kernel.repeats count h copies known sound is.reports is.compiled (classes_within d (repeat count body) h copies)
