-- What repeats is said of the classes of a graph alone.
use Rattle.std.proofs.Common.{◌≡◌, ℕ, ◌*◌, List, ◌++◌, length, sym, ap, ◌∙◌, subst}
use Rattle.std.specs.List.{repeat}
use Rattle.hz_pipeline_model.specs.Accepting.Events.{Event}
use Rattle.hz_block_model.specs.Running.Blocks.{Instruction}
use Rattle.hz_block_model.specs.Dependences.Dependences.{Timing}
use Rattle.hz_pipeline_model.specs.Tables.Machines.{Machine, machine_walk, IsWalked}
use Rattle.hz_block_model.specs.Scheduling.Schedules.{Node, Graph, Slot, present, advance_to, spell}
use Rattle.hz_block_model.specs.Scheduled.BlockGraphs.{classes_of}
use Rattle.hz_measure_model.specs.Kernels.Turns.{repeated, turns_before, turns, start}
use Rattle.hz_measure_model.specs.Kernels.Repeats.{Repeats, IsKernel}
use Rattle.hz_measure_model.proofs.Kernels.RepeatLaws.{map-repeat}
use Rattle.hz_measure_model.proofs.Kernels.LegalLaws.{spelled_alike}

module _ (m : Machine) (body : List Instruction) (t : Timing) (g h : Graph) (slots : List Slot) (same : classes_of g ≡ classes_of h) where
  same_repeated : (n : ℕ) → classes_of (repeated h n) ≡ classes_of (repeated g n)
  same_repeated n = map-repeat (λ (node : Node). node.class) n h.nodes ∙ (ap (repeat n) (sym same) ∙ sym (map-repeat (λ (node : Node). node.class) n g.nodes))

  same_spell : (n : ℕ) (xs : List Slot) → spell (repeated h n) xs ≡ spell (repeated g n) xs
  same_spell n xs = spelled_alike (repeated g n) (repeated h n) (same_repeated n) 0 xs

  module _ (interval : ℕ) where
    same_start : (turn : ℕ) → start (length body) interval slots h turn ≡ start (length body) interval slots g turn
    same_start turn = ap (λ (s : List Event). s ++ advance_to (present 0 (turns_before (length body) interval slots turn (turn * interval))) (turn * interval)) (same_spell turn (turns_before (length body) interval slots turn (turn * interval)))

    pub repeats_there : (first second : ℕ) → Repeats m body t g slots interval first second → Repeats m body t h slots interval first second
    repeats_there first second r = record {
      few = r.few;
      costs = r.costs;
      settled = r.settled;
      before = r.before;
      soon = r.soon;
      walked = subst (IsWalked m) (sym (same_start first)) r.walked;
      same = ap (machine_walk m) (same_start first) ∙ (r.same ∙ ap (machine_walk m) (sym (same_start second)));
      different = λ a b low lt high e. r.different a b low lt high (ap (machine_walk m) (sym (same_start a)) ∙ (e ∙ ap (machine_walk m) (same_start b)));
      each = λ n le. subst (IsWalked m) (sym (same_spell n (turns (length body) interval slots n))) (r.each n le);
    }

-- a kernel by one graph is one by each other with the same classes
pub kernel_there : (m : Machine) (body : List Instruction) (t : Timing) (g h : Graph) (slots : List Slot) → classes_of g ≡ classes_of h → (interval first second : ℕ) → IsKernel m body t g slots interval first second → IsKernel m body t h slots interval first second
kernel_there m body t g h slots same interval first second k = record {
  some = k.some;
  repeats = repeats_there m body t g h slots same interval first second k.repeats;
  least = λ shorter a b low lt r. k.least shorter a b low lt (repeats_there m body t h g slots (sym same) shorter a b r);
}
