-- How the starts of turns and their drains are walked, interval by interval.
use Rattle.std.proofs.Common.{◌≡◌, ℕ, zero, suc, ◌+◌, ◌*◌, ◌-◌, ◌<◌, ◌≤◌, ◌==◌, true, false, List, [], ◌∷◌, ◌++◌, map, length, replicate, All, Option, Some, None, refl, sym, ap, ◌∙◌, append-nil, arith}
use Rattle.std.specs.Prelude.{is_some, ◌↔◌}
use Rattle.std.proofs.lemmas.Bool.{ne_eqb}
use Rattle.std.proofs.lemmas.List.{replicate-append-replicate}
use Rattle.std.proofs.lemmas.List.Elements.{All-nil, All-cons, All-weaker}
use Rattle.hz_base_model.specs.Limits.{cycle_limit}
use Rattle.hz_pipeline_model.specs.Accepting.Events.{Event, advance, IsOfClass}
use Rattle.hz_pipeline_model.specs.Tables.Machines.{Part, Machine, word_of, onto_states, parts_walk, starts_of, machine_walk, IsWalked, IsMachine, advance_of}
use Rattle.hz_pipeline_model.proofs.Tables.MachineLaws.{parts_walk-append}
use Rattle.hz_block_model.specs.Scheduling.Schedules.{Graph, Slot, present, advance_to, spell}
use Rattle.hz_block_model.specs.Scheduling.Machines.{Settles}
use Rattle.hz_measure_model.specs.Kernels.Turns.{repeated, issued_by, issued_at, turns, turns_before, stages}
use Rattle.hz_measure_model.specs.Kernels.Kernels.{kernel_slots, interval_trace}
use Rattle.hz_measure_model.proofs.Kernels.DepLaws.{more_copies}
use Rattle.hz_measure_model.proofs.Kernels.RangeLaws.{range-more, filter_none}
use Rattle.hz_measure_model.proofs.Kernels.CycleLaws.{by_cycles, slot_at, walks_alike}
use Rattle.hz_measure_model.proofs.Kernels.PeriodLaws.{classes_in, cycles_more}
use Rattle.hz_measure_model.proofs.Kernels.RepeatLaws.{on, edge, edge_cycles, edge_next, walked_cycles, front_walked, walked_to}
use Rattle.hz_measure_model.proofs.Kernels.KernelRowLaws.{range_none, interval_walked}
use Rattle.hz_measure_model.proofs.Kernels.AdvanceLaws.{walked_on}

module _ (m : Machine) (interval : ℕ) (slots : List Slot) (g : Graph) (within : All (λ x. x.place < length g.nodes) slots) (all : All (λ x. x.cycle ≤ present 0 slots) slots) (far : present 0 slots < (stages interval slots + 1) * interval) where
  -- the first turn begins at the start
  pub edge_zero : edge m interval slots g within 0 ≡ Some (starts_of m)
  edge_zero =
      edge_cycles m interval slots g within 0
      ∙ (ap (λ (n : ℕ). parts_walk m.parts (starts_of m) (by_cycles (classes_in interval slots g 0) 0 n)) (let none : 0 * interval ≡ 0 = omega arith in none)
      ∙ nothing m.parts)
    where
      nothing : (parts : List Part) → parts_walk parts (replicate (length parts) 0) [] ≡ Some (replicate (length parts) 0)
      nothing [] = refl
      nothing (part ∷ parts) = ap (onto_states (Some 0)) (nothing parts)

  on-same : (s t : List Event) → ((states : List ℕ) → parts_walk m.parts states s ≡ parts_walk m.parts states t) → (from : Option (List ℕ)) → on m s from ≡ on m t from
  on-same s t same None = refl
  on-same s t same (Some states) = same states

  -- each further turn begins an interval later: the kernel with the stages of the turns that have begun
  pub edge_more : (turn : ℕ) → edge m interval slots g within (suc turn) ≡ on m (interval_trace g interval 0 turn (kernel_slots interval slots)) (edge m interval slots g within turn)
  edge_more turn =
      edge_next m interval slots g within turn
      ∙ (sym (on-same _ _ (λ states. interval_walked interval slots g all far (suc turn) turn m.parts states) (edge m interval slots g within turn))
      ∙ ap (λ (least : ℕ). on m (interval_trace g interval least turn (kernel_slots interval slots)) (edge m interval slots g within turn)) (let none : (turn + 1) - suc turn ≡ 0 = omega arith in none))

  -- so many intervals after the start of a turn that does not come: the kernel with the stages of the turns that have
  abbrev pub drained : (turn intervals : ℕ) → Option (List ℕ)
  drained turn zero = edge m interval slots g within turn
  drained turn (suc intervals) = on m (interval_trace g interval (intervals + 1) (turn + intervals) (kernel_slots interval slots)) (drained turn intervals)

  drained_cycles : (turn intervals : ℕ) → drained turn intervals ≡ parts_walk m.parts (starts_of m) (by_cycles (classes_in interval slots g turn) 0 ((turn + intervals) * interval))
  drained_cycles turn zero = edge_cycles m interval slots g within turn ∙ ap (λ (n : ℕ). parts_walk m.parts (starts_of m) (by_cycles (classes_in interval slots g turn) 0 (n * interval))) (let same : turn ≡ turn + 0 = omega arith in same)
  drained_cycles turn (suc intervals) =
      let least : (turn + intervals + 1) - turn ≡ intervals + 1 = omega arith in
      let more : (turn + intervals) * interval + interval ≡ (turn + suc intervals) * interval = omega arith in
      let begin : 0 + (turn + intervals) * interval ≡ (turn + intervals) * interval = omega arith in
      ap (λ (n : ℕ). on m (interval_trace g interval n (turn + intervals) (kernel_slots interval slots)) (drained turn intervals)) (sym least)
      ∙ (on-same _ _ (λ states. interval_walked interval slots g all far turn (turn + intervals) m.parts states) (drained turn intervals)
      ∙ (ap (on m (by_cycles (classes_in interval slots g turn) ((turn + intervals) * interval) interval)) (drained_cycles turn intervals)
      ∙ (sym (parts_walk-append m.parts (starts_of m) (by_cycles (classes_in interval slots g turn) 0 ((turn + intervals) * interval)) (by_cycles (classes_in interval slots g turn) ((turn + intervals) * interval) interval))
      ∙ ap (parts_walk m.parts (starts_of m)) (
      ap (λ (a : ℕ). by_cycles (classes_in interval slots g turn) 0 ((turn + intervals) * interval) ++ by_cycles (classes_in interval slots g turn) a interval) (sym begin)
      ∙ (sym (cycles_more interval slots g (classes_in interval slots g turn) 0 ((turn + intervals) * interval) interval)
      ∙ ap (by_cycles (classes_in interval slots g turn) 0) more)))))

  -- after the last cycle nothing is issued
  none_left : (count cycle : ℕ) → count * interval + (present 0 slots + 1) ≤ cycle → map (slot_at cycle) (issued_at (length g.nodes) interval slots count cycle) ≡ []
  none_left count cycle le = ap (map (slot_at cycle)) (range_none (λ turn. map (λ x. turn * length g.nodes + x.place) (issued_by interval slots turn cycle)) 0 count (λ turn low high.
      ap (map (λ (x : Slot). turn * length g.nodes + x.place)) (filter_none (λ x. turn * interval + x.cycle == cycle) slots
      (All-weaker (λ x. x.cycle ≤ present 0 slots) (λ x. (turn * interval + x.cycle == cycle) ≡ false) (λ x h. let more = more_copies turn count interval (omega (arith, high)) in ne_eqb (turn * interval + x.cycle) cycle (λ e. omega (arith, e, more))) slots all))))

  all_before : (count more : ℕ) → turns_before (length g.nodes) interval slots count (count * interval + (present 0 slots + 1) + more) ≡ turns (length g.nodes) interval slots count
  all_before count more =
      range-more (λ c. map (slot_at c) (issued_at (length g.nodes) interval slots count c)) 0 (count * interval + (present 0 slots + 1)) more
      ∙ (ap (λ (xs : List Slot). turns (length g.nodes) interval slots count ++ xs) (range_none (λ c. map (slot_at c) (issued_at (length g.nodes) interval slots count c)) (0 + (count * interval + (present 0 slots + 1))) more (λ c low high. none_left count c (omega (arith, low))))
      ∙ append-nil (turns (length g.nodes) interval slots count))

  -- so many turns are walked exactly where their drain is, to its last stage
  pub turns_drained : IsMachine m → (count : ℕ) → IsWalked m (spell (repeated g count) (turns (length g.nodes) interval slots count)) ↔ (is_some (drained count (stages interval slots + 1)) ≡ true)
  turns_drained machine count = (
    (λ walked. ap is_some same ∙ walked_to m interval slots g within machine (spell (repeated g count) ts) (present 0 ts) ((count + (stages interval slots + 1)) * interval) walked),
    (λ some. front_walked m interval slots g within (spell (repeated g count) ts) (advance_to (present 0 ts) ((count + (stages interval slots + 1)) * interval)) (ap is_some (sym same) ∙ some)),
  )
    where
      ts : List Slot
      ts = turns (length g.nodes) interval slots count

      wide : count * interval + (present 0 slots + 1) + ((stages interval slots + 1) * interval - (present 0 slots + 1)) ≡ (count + (stages interval slots + 1)) * interval
      wide = let dist : (count + (stages interval slots + 1)) * interval ≡ count * interval + (stages interval slots + 1) * interval = omega arith in omega (arith, far, dist)

      slots_same : turns_before (length g.nodes) interval slots count ((count + (stages interval slots + 1)) * interval) ≡ turns (length g.nodes) interval slots count
      slots_same = ap (turns_before (length g.nodes) interval slots count) (sym wide) ∙ all_before count ((stages interval slots + 1) * interval - (present 0 slots + 1))

      same : drained count (stages interval slots + 1) ≡ machine_walk m (spell (repeated g count) (turns (length g.nodes) interval slots count) ++ advance_to (present 0 (turns (length g.nodes) interval slots count)) ((count + (stages interval slots + 1)) * interval))
      same =
          drained_cycles count (stages interval slots + 1)
          ∙ (sym (walked_cycles m interval slots g within count ((count + (stages interval slots + 1)) * interval))
          ∙ ap (λ (xs : List Slot). machine_walk m (spell (repeated g count) xs ++ advance_to (present 0 xs) ((count + (stages interval slots + 1)) * interval))) slots_same)

-- a machine that settles stays in its start: so an advance may end as soon as it is there
pub start_stays : (m : Machine) → IsMachine m → Settles m → machine_walk m (advance 1 ∷ []) ≡ Some (starts_of m)
start_stays m machine settle =
    let settled : machine_walk m (advance cycle_limit ∷ []) ≡ Some (starts_of m) = settle.settles [] (All-nil (IsOfClass (length m.classes))) (ap is_some (nothing m.parts)) in
    let one : IsWalked m (advance 1 ∷ []) = walked_on m machine [] 1 (ap is_some (nothing m.parts)) in
    let later = settle.settles (advance 1 ∷ []) (All-cons (IsOfClass (length m.classes)) (advance 1) [] tt (All-nil (IsOfClass (length m.classes)))) one in
    ap (on m (advance 1 ∷ [])) (sym settled)
    ∙ (sym (parts_walk-append m.parts (starts_of m) (advance cycle_limit ∷ []) (advance 1 ∷ []))
    ∙ (walks_alike m.parts (starts_of m) (advance cycle_limit ∷ advance 1 ∷ []) (advance 1 ∷ advance cycle_limit ∷ []) turned
    ∙ later))
  where
    nothing : (parts : List Part) → parts_walk parts (replicate (length parts) 0) [] ≡ Some (replicate (length parts) 0)
    nothing [] = refl
    nothing (part ∷ parts) = ap (onto_states (Some 0)) (nothing parts)

    turned : (part : Part) → word_of part (advance cycle_limit ∷ advance 1 ∷ []) ≡ word_of part (advance 1 ∷ advance cycle_limit ∷ [])
    turned part =
        ap (λ (w : List ℕ). replicate cycle_limit (advance_of part) ++ w) (append-nil (replicate 1 (advance_of part)))
        ∙ (replicate-append-replicate cycle_limit 1 (advance_of part)
        ∙ (sym (replicate-append-replicate 1 cycle_limit (advance_of part))
        ∙ sym (ap (λ (w : List ℕ). replicate 1 (advance_of part) ++ w) (append-nil (replicate cycle_limit (advance_of part))))))
