-- What is walked by the slots of a kernel is what the definitions say of its turns.
use Rattle.std.proofs.Common.{◌≡◌, ℕ, zero, suc, ◌+◌, ◌*◌, ◌<◌, ◌≤◌, true, List, length, All, sym, ap, ◌∙◌, subst, arith}
use Rattle.std.specs.Prelude.{is_some, option_and_then, ◌↔◌}
use Rattle.std.proofs.lemmas.Nat.{mod_below, div-add-mod'}
use Rattle.hz_block_model.specs.Running.Blocks.{Instruction}
use Rattle.hz_block_model.specs.Dependences.Dependences.{Timing}
use Rattle.hz_pipeline_model.specs.Tables.Machines.{Machine, parts_walk, machine_walk, IsWalked, IsMachine}
use Rattle.hz_block_model.specs.Scheduling.Schedules.{Graph, Slot, present, spell}
use Rattle.hz_measure_model.specs.Kernels.Turns.{repeated, turns, start, stages}
use Rattle.hz_measure_model.specs.Kernels.Kernels.{kernel_slots, interval_trace}
use Rattle.hz_measure_model.specs.Kernels.Repeats.{KeepsCosts, stage_limit, Repeats}
use Rattle.hz_measure_model.proofs.Kernels.RepeatLaws.{edge}
use Rattle.hz_measure_model.proofs.Kernels.SearchLaws.{edge_zero, edge_more, drained, turns_drained}
use Rattle.hz_modulo.specs.Walking.{drained_from}
use Rattle.hz_modulo.specs.Repeating.{edge_by, drain_by, RepeatsBy}

module _ (m : Machine) (machine : IsMachine m) (g : Graph) (slots : List Slot) (within : All (λ x. x.place < length g.nodes) slots) (all : All (λ x. x.cycle ≤ present 0 slots) slots) (interval : ℕ) (some : 1 ≤ interval) where
  far : present 0 slots < (stages interval slots + 1) * interval
  far =
      let parts = div-add-mod' (present 0 slots) interval in
      let small = mod_below (present 0 slots) interval some in
      let dist : (stages interval slots + 1) * interval ≡ stages interval slots * interval + interval = omega arith in
      omega (arith, parts, small, dist)

  edge_same : (turn : ℕ) → edge_by m g interval (kernel_slots interval slots) turn ≡ edge m interval slots g within turn
  edge_same zero = sym (edge_zero m interval slots g within all far)
  edge_same (suc turn) =
      ap (option_and_then (λ states. parts_walk m.parts states (interval_trace g interval 0 turn (kernel_slots interval slots)))) (edge_same turn)
      ∙ sym (edge_more m interval slots g within all far turn)

  drain_same : (turn intervals : ℕ) → drained_from m g interval (kernel_slots interval slots) turn intervals (edge_by m g interval (kernel_slots interval slots) turn) ≡ drained m interval slots g within all far turn intervals
  drain_same turn zero = edge_same turn
  drain_same turn (suc intervals) = ap (option_and_then (λ states. parts_walk m.parts states (interval_trace g interval (intervals + 1) (turn + intervals) (kernel_slots interval slots)))) (drain_same turn intervals)

  module _ (body : List Instruction) (many : length g.nodes ≡ length body) where
    at_same : (turn : ℕ) → edge_by m g interval (kernel_slots interval slots) turn ≡ machine_walk m (start (length body) interval slots g turn)
    at_same turn = edge_same turn ∙ ap (λ (size : ℕ). machine_walk m (start size interval slots g turn)) many

    walked_same : (count : ℕ) → IsWalked m (spell (repeated g count) (turns (length body) interval slots count)) ↔ (is_some (drain_by m g interval (kernel_slots interval slots) (stages interval slots) count) ≡ true)
    walked_same count =
        let both = turns_drained m interval slots g within all far machine count in
        let ends = ap is_some (drain_same count (stages interval slots + 1)) in (
          (λ walked. ends ∙ both.0 (subst (λ (size : ℕ). IsWalked m (spell (repeated g count) (turns size interval slots count))) (sym many) walked)),
          (λ some. subst (λ (size : ℕ). IsWalked m (spell (repeated g count) (turns size interval slots count))) many (both.1 (sym ends ∙ some))),
        )

    -- an interval with few stages that keeps the costs repeats where its kernel does
    pub repeats_as_defined : (t : Timing) (first second : ℕ) → stages interval slots ≤ stage_limit → KeepsCosts body t interval slots 3
        → RepeatsBy m g interval (stages interval slots) (kernel_slots interval slots) first second → Repeats m body t g slots interval first second
    repeats_as_defined t first second few costs r = record {
      few = few;
      costs = costs;
      settled = r.settled;
      before = r.before;
      soon = r.soon;
      walked = ap is_some (sym (at_same first)) ∙ r.walked;
      same = sym (at_same first) ∙ (r.same ∙ at_same second);
      different = λ a b low lt high e. r.different a b low lt high (at_same a ∙ (e ∙ sym (at_same b)));
      each = λ count le. (walked_same count).1 (r.each count le);
    }

    -- and the kernel where it does
    pub repeats_by_kernel : (t : Timing) (first second : ℕ) → Repeats m body t g slots interval first second → RepeatsBy m g interval (stages interval slots) (kernel_slots interval slots) first second
    repeats_by_kernel t first second r = record {
      settled = r.settled;
      before = r.before;
      soon = r.soon;
      walked = ap is_some (at_same first) ∙ r.walked;
      same = at_same first ∙ (r.same ∙ sym (at_same second));
      different = λ a b low lt high e. r.different a b low lt high (sym (at_same a) ∙ (e ∙ at_same b));
      each = λ count le. (walked_same count).0 (r.each count le);
    }
