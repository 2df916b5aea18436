-- The trace of a schedule can be replayed: its classes are those of the machine, and its advances are few.
use Rattle.std.proofs.Common.{ℕ, ◌<◌, ◌≤◌, ◌*◌, List, length, All, sym, subst, arith}
use Rattle.std.specs.List.{AllPairs}
use Rattle.std.proofs.lemmas.List.{length-map}
use Rattle.std.proofs.lemmas.List.Elements.{All-map}
use Rattle.hz_pipeline_model.specs.Traces.TraceLimits.{advance_limit}
use Rattle.hz_pipeline_model.specs.Accepting.Events.{IsOfClass, cycles_of}
use Rattle.hz_depend.specs.declared.parts.Graph as depend
use Rattle.hz_depend.specs.GraphShape.{IsSchedulable}
use Rattle.hz_block_model.specs.Scheduling.Schedules.{Slot, spell}
use Rattle.hz_block_model.specs.Scheduling.Machines.{most_wait}
use Rattle.hz_block_model.proofs.Scheduling.SameSchedules.{AreWithin, spelled_of_class}
use Rattle.hz_block_model.proofs.Scheduling.TraceLaws.{cycles_spelled, present_within}
use Rattle.hz_sched.specs.declared.parts.Slot as made
use Rattle.hz_sched.specs.Shape.{graph_of, node_of, slot_of, slots_of}
use Rattle.hz_sched.proofs.SchedLemmas.{ranges_of}
use Rattle.hz_block_model.specs.Running.Limits.{instruction_limit}

pub spelled_classes : (classes : ℕ) (g : depend.Graph) (slots : List made.Slot) → IsSchedulable classes g → All (λ x. x.place < length g.insns.items) slots → All (IsOfClass classes) (spell (graph_of g) (slots_of slots))
spelled_classes classes g slots is places = spelled_of_class classes (graph_of g) (ranges_of classes g is) 0 (slots_of slots) within
  where
    within : AreWithin (graph_of g) (slots_of slots)
    within = All-map (λ (x : Slot). x.place < length (graph_of g).nodes) slot_of slots (subst (λ (n : ℕ). All (λ x. x.place < n) slots) (sym (length-map g.insns.items node_of)) places)

pub spelled_short : (g : depend.Graph) (slots : List made.Slot) → AllPairs (λ x y. x.cycle ≤ y.cycle) (slots_of slots) → length g.insns.items ≤ instruction_limit → All (λ x. x.cycle ≤ most_wait * length g.insns.items) slots → cycles_of (spell (graph_of g) (slots_of slots)) ≤ advance_limit
spelled_short g slots rising few soon =
    let last = present_within (slots_of slots) 0 (most_wait * length g.insns.items) (omega arith) (All-map (λ (x : Slot). x.cycle ≤ most_wait * length g.insns.items) slot_of slots soon) in
    omega (arith, last, cycles_spelled (graph_of g) (slots_of slots) rising)
