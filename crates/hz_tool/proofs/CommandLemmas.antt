-- The exits of a command on a description, and of one on a block.
use Rattle.std.proofs.Common.{◌≡◌, ◌<◌, ℕ, List, length, All, inl, inr}
use Rattle.std.specs.Prelude.{Result, IsErrAnd}
use Rattle.hz_answer_model.specs.Answers.{Compiles, TellsLimit}
use Rattle.hz_answer_model.specs.ScheduleAnswers.{HasClasses, Starts}
use Rattle.hz_auto.specs.Machines.{reports_of}
use Rattle.hz_block_model.proofs.Scheduled.GraphLaws.{all_have_classes}
use Rattle.hz_block_model.specs.Scheduled.BlockGraphs.{IsGraphOf, classes_of}
use Rattle.hz_block_model.specs.Scheduled.BlockSchedules.{IsScheduleOf}
use Rattle.hz_check.specs.Checked.{IsCheckedOf}
use Rattle.hz_checked.specs.declared.checked.Checked.{Checked}
use Rattle.hz_depend.specs.declared.parts.Graph.{Graph}
use Rattle.hz_description_model.specs.Check.Places.{Known}
use Rattle.hz_description_model.specs.Reading.Descriptions.{Description}
use Rattle.hz_front.proofs.AnswerLemmas.{agrees_weaker}
use Rattle.hz_front.specs.Fronts.{IsCheckedIn}
use Rattle.hz_front.specs.Refusals.{Agrees}
use Rattle.hz_front.specs.declared.refusal.Refusal.{Refusal}
use Rattle.hz_front_model.specs.Descriptions.{HasDescription}
use Rattle.hz_front_model.specs.Phases.{Next}
use Rattle.hz_rtl.specs.Shape.{instructions}
use Rattle.hz_rtl.specs.declared.block.Block.{Block}
use Rattle.hz_sched.specs.Shape.{graph_of, slots_of}
use Rattle.hz_sched.specs.declared.parts.Schedule.{Schedule}
use Rattle.hz_tables.specs.Machines.{machine_of}
use Rattle.hz_tables.specs.declared.machine.Machine.{Machine}
use Rattle.hz_tool.proofs.BlockLemmas.{is_graph}
use Rattle.hz_tool.proofs.DecideLemmas.{decides_weaker, hands_on}
use Rattle.hz_tool.proofs.JudgeLemmas.{compiled_else}
use Rattle.hz_tool.proofs.MachineLemmas.{classes_count, machine_for}
use Rattle.hz_tool.proofs.SlotLemmas.{nodes_below, schedule_is}
use Rattle.hz_tool.proofs.StartLemmas.{each_starts}
use Rattle.hz_tool.specs.Deciding.{Decides, Refuses}
use Rattle.hz_tool.specs.Fronts.{Compiling, IsFrontOf}
use Rattle.hz_tool.specs.Machines.{IsMachineFor}
use Rattle.hz_tool.specs.Scheduled.{IsScheduledBy}
use Rattle.hz_tool.specs.declared.done.Done.{Done}
use Rattle.hz_tool.specs.declared.phases.compiling.Front.{Front}

-- a description without a fault whose states pass a limit
pub limit_refused : (name bytes : List ℕ) (checked : Checked) (is : IsCheckedIn bytes checked) (refusal : Refusal) → Agrees (TellsLimit name is.d is.is.known) refusal → Agrees (Compiling name bytes) refusal
limit_refused name bytes checked is = agrees_weaker (TellsLimit name is.d is.is.known) (Compiling name bytes) (λ s t h. inl (is.read, is.forms, inl (is.d, is.says, inl (is.is.known, is.is.sound, inr h))))

-- the machine is the description's
pub front_machine : (bytes : List ℕ) (front : Front) (is : IsFrontOf bytes front) → IsMachineFor is.checked.d is.checked.is.known (machine_of front.compiled.machine)
front_machine bytes front is = machine_for is.checked.d front.checked is.checked.is (machine_of front.compiled.machine) (reports_of front.compiled.reports.items) is.compiled.compiled

module _ (name bytes : List ℕ) (next : (d : Description) → Next Known) where
  -- what a description of this name and text answers, where `next` follows
  abbrev pub whole : ℕ → List ℕ → Type 0
  whole = HasDescription name bytes (λ d known. Compiles name d known (next d known))

  -- it is not compiled
  pub uncompiled : (r : Result Done Refusal) (refusal : Refusal) → IsErrAnd r (λ e. e ≡ refusal) → Refuses (Compiling name bytes) refusal → Decides whole r
  uncompiled r refusal = hands_on (Compiling name bytes) whole (compiled_else name bytes next) r refusal

  module _ (front : Front) (is : IsFrontOf bytes front) where
    pub compiled_then : (s : ℕ) (t : List ℕ) → next is.checked.d is.checked.is.known s t → whole s t
    compiled_then s t h = inl (is.checked.read, is.checked.forms, inl (is.checked.d, is.checked.says, inl (is.checked.is.known, is.checked.is.sound, inl ((front_machine bytes front is).keeps, h))))

    module _ (narrow : ℕ → List ℕ → Type 0) (widens : (s : ℕ) (t : List ℕ) → narrow s t → next is.checked.d is.checked.is.known s t) where
      -- it is compiled, and what follows refuses
      pub refused_then : (r : Result Done Refusal) (refusal : Refusal) → IsErrAnd r (λ e. e ≡ refusal) → Refuses narrow refusal → Decides whole r
      refused_then = hands_on narrow whole (λ s t h. compiled_then s t (widens s t h))

      -- it is compiled, and what follows decides
      pub decided_then : (r : Result Done Refusal) → Decides narrow r → Decides whole r
      decided_then = decides_weaker narrow whole (λ s t h. compiled_then s t (widens s t h))

module _ (d : Description) (checked : Checked) (is : IsCheckedOf d checked) (machine : Machine) (for : IsMachineFor d is.known (machine_of machine)) (block : Block) (graph : Graph) (schedule : Schedule) (by : IsScheduledBy checked machine block graph schedule) where
  pub block_graph : IsGraphOf d (instructions block) (graph_of graph)
  block_graph = is_graph d checked is block graph by.made

  ranges : All (λ n. n.class < length d.classes) (graph_of graph).nodes
  ranges = nodes_below (length (machine_of machine).classes) (length d.classes) graph by.schedulable.classes (classes_count d is.known (machine_of machine) for)

  -- the schedule is that of the block by the description
  pub block_schedule : IsScheduleOf d is.known (instructions block) (graph_of graph) (slots_of schedule.slots.items)
  block_schedule = schedule_is d is.known (machine_of machine) (instructions block) (graph_of graph) (slots_of schedule.slots.items) for block_graph ranges by.legal by.greedy

  -- what is reported of it is the answer
  pub scheduled_then : (name : List ℕ) (next : ℕ → List ℕ → Type 0) (s : ℕ) (t : List ℕ) → next s t → HasClasses name d (instructions block) (Starts name d is.known (instructions block) next) s t
  scheduled_then name next s t h =
      inl (all_have_classes d (classes_of (graph_of graph)) (instructions block) block_graph.classes, inl (each_starts d is.known (machine_of machine) for (graph_of graph) (instructions block) block_graph ranges by.starts, h))
