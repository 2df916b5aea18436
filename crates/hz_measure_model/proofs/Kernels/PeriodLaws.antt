-- What the turns of a body issue at a cycle: an interval later it is the same, one turn on.
use Rattle.std.proofs.Common.{◌≡◌, ℕ, suc, ◌+◌, ◌*◌, ◌<◌, ◌≤◌, ◌==◌, false, List, [], ◌++◌, map, All, ap, ◌∙◌, append-nil, arith}
use Rattle.std.specs.List.{flat_map, range_with_len}
use Rattle.std.proofs.lemmas.Bool.{ne_eqb}
use Rattle.std.proofs.lemmas.List.Elements.{All-weaker, filter_agree}
use Rattle.hz_pipeline_model.specs.Accepting.Events.{Event}
use Rattle.hz_block_model.specs.Scheduling.Schedules.{Graph, Slot, class_at}
use Rattle.hz_measure_model.specs.Kernels.Turns.{issued_by}
use Rattle.hz_measure_model.proofs.Kernels.RangeLaws.{range-more, range-shift, range-agree, filter_none, same_test}
use Rattle.hz_measure_model.proofs.Kernels.CycleLaws.{events_of, by_cycles}

module _ (interval : ℕ) (slots : List Slot) (g : Graph) where
  -- the classes that a turn issues at a cycle
  abbrev pub classes_by : ℕ → ℕ → List ℕ
  classes_by turn cycle = map (λ x. class_at g x.place) (issued_by interval slots turn cycle)

  -- the classes that so many turns issue at a cycle
  abbrev pub classes_in : ℕ → ℕ → List ℕ
  classes_in count cycle = flat_map (λ turn. classes_by turn cycle) (range_with_len 0 count)

  none_issued : (turn cycle : ℕ) → All (λ x. (turn * interval + x.cycle ≡ cycle) → ⊥) slots → classes_by turn cycle ≡ []
  none_issued turn cycle none =
      ap (map (λ x. class_at g x.place)) (filter_none (λ x. turn * interval + x.cycle == cycle) slots
      (All-weaker (λ x. (turn * interval + x.cycle ≡ cycle) → ⊥) (λ x. (turn * interval + x.cycle == cycle) ≡ false) (λ x h. ne_eqb (turn * interval + x.cycle) cycle h) slots none))

  -- a turn that has not begun issues nothing
  pub not_begun : (turn cycle : ℕ) → cycle < turn * interval → classes_by turn cycle ≡ []
  not_begun turn cycle lt = none_issued turn cycle (λ i d low e. omega (arith, e))

  -- a turn does at a cycle what the next one does an interval later
  next_turn : (turn cycle : ℕ) → classes_by (turn + 1) (cycle + interval) ≡ classes_by turn cycle
  next_turn turn cycle = ap (map (λ x. class_at g x.place)) (filter_agree
      (λ x. (turn + 1) * interval + x.cycle == cycle + interval) (λ x. turn * interval + x.cycle == cycle)
      (λ x. same_test ((turn + 1) * interval + x.cycle) (cycle + interval) (turn * interval + x.cycle) cycle (λ e. omega (arith, e)) (λ e. omega (arith, e))) slots)

  -- a turn that has not begun changes nothing
  pub one_turn_more : (count cycle : ℕ) → cycle < count * interval → classes_in (suc count) cycle ≡ classes_in count cycle
  one_turn_more count cycle lt =
      let more : suc count ≡ count + 1 = omega arith in
      let last : 0 + count ≡ count = omega arith in
      ap (λ (n : ℕ). flat_map (λ turn. classes_by turn cycle) (range_with_len 0 n)) more
      ∙ (range-more (λ turn. classes_by turn cycle) 0 count 1
      ∙ (ap (λ (n : ℕ). classes_in count cycle ++ (classes_by n cycle ++ [])) last
      ∙ (ap (λ (cs : List ℕ). classes_in count cycle ++ (cs ++ [])) (not_begun count cycle lt)
      ∙ append-nil (classes_in count cycle))))

  module _ (last : ℕ) (all : All (λ x. x.cycle ≤ last) slots) where
    -- after the first turn's last cycle all is as an interval before
    pub one_interval_on : (count cycle : ℕ) → last < cycle + interval → classes_in (suc count) (cycle + interval) ≡ classes_in count cycle
    one_interval_on count cycle lt =
        let first : classes_by 0 (cycle + interval) ≡ [] = none_issued 0 (cycle + interval) (λ i d low e. let h = all i d low in omega (arith, e)) in
        ap (λ (cs : List ℕ). cs ++ flat_map (λ turn. classes_by turn (cycle + interval)) (range_with_len (0 + 1) count)) first
        ∙ (range-shift (λ turn. classes_by turn (cycle + interval)) 0 1 count
        ∙ range-agree (λ turn. classes_by (turn + 1) (cycle + interval)) (λ turn. classes_by turn cycle) 0 count (λ turn low high. next_turn turn cycle))

  -- ---- cycles in a row

  pub cycles_agree : (f h : ℕ → List ℕ) (a n : ℕ) → ((c : ℕ) → a ≤ c → c < a + n → f c ≡ h c) → by_cycles f a n ≡ by_cycles h a n
  cycles_agree f h a n same = range-agree (λ c. events_of (f c)) (λ c. events_of (h c)) a n (λ c low high. ap events_of (same c low high))

  pub cycles_more : (f : ℕ → List ℕ) (a n m : ℕ) → by_cycles f a (n + m) ≡ by_cycles f a n ++ by_cycles f (a + n) m
  cycles_more f a n m = range-more (λ c. events_of (f c)) a n m

  -- the events of one interval, from the start of a turn
  abbrev pub period : ℕ → List Event
  period turn = by_cycles (classes_in (suc turn)) (turn * interval) interval

  -- the events after the start of a turn that does not come
  abbrev pub drain : ℕ → ℕ → List Event
  drain cycles turn = by_cycles (classes_in turn) (turn * interval) cycles

  module _ (last : ℕ) (all : All (λ x. x.cycle ≤ last) slots) where
    shifted : (count a n : ℕ) → last < a + interval → by_cycles (classes_in (suc count)) (a + interval) n ≡ by_cycles (classes_in count) a n
    shifted count a n far =
        range-shift (λ c. events_of (classes_in (suc count) c)) a interval n
        ∙ cycles_agree (λ c. classes_in (suc count) (c + interval)) (classes_in count) a n (λ c low high. one_interval_on last all count c (omega arith))

    next_start : (turn : ℕ) → suc turn * interval ≡ turn * interval + interval
    next_start turn = omega arith

    pub period_again : (turn : ℕ) → last < suc turn * interval → period (suc turn) ≡ period turn
    period_again turn far =
        ap (λ (a : ℕ). by_cycles (classes_in (suc (suc turn))) a interval) (next_start turn)
        ∙ shifted (suc turn) (turn * interval) interval (omega (arith, next_start turn))

    pub drain_again : (cycles turn : ℕ) → last < suc turn * interval → drain cycles (suc turn) ≡ drain cycles turn
    drain_again cycles turn far =
        ap (λ (a : ℕ). by_cycles (classes_in (suc turn)) a cycles) (next_start turn)
        ∙ shifted turn (turn * interval) cycles (omega (arith, next_start turn))

  -- the events before the start of the next turn
  pub one_period_more : (turn : ℕ) → by_cycles (classes_in (suc turn)) 0 (suc turn * interval) ≡ by_cycles (classes_in turn) 0 (turn * interval) ++ period turn
  one_period_more turn =
      let next : suc turn * interval ≡ turn * interval + interval = omega arith in
      let begin : 0 + turn * interval ≡ turn * interval = omega arith in
      ap (by_cycles (classes_in (suc turn)) 0) next
      ∙ (cycles_more (classes_in (suc turn)) 0 (turn * interval) interval
      ∙ (ap (λ (es : List Event). es ++ by_cycles (classes_in (suc turn)) (0 + turn * interval) interval) (cycles_agree (classes_in (suc turn)) (classes_in turn) 0 (turn * interval) (λ c low high. one_turn_more turn c (omega arith)))
      ∙ ap (λ (a : ℕ). by_cycles (classes_in turn) 0 (turn * interval) ++ by_cycles (classes_in (suc turn)) a interval) begin))

  -- all events of so many turns
  pub drained : (turn cycles : ℕ) → by_cycles (classes_in turn) 0 (turn * interval + cycles) ≡ by_cycles (classes_in turn) 0 (turn * interval) ++ drain cycles turn
  drained turn cycles =
      let begin : 0 + turn * interval ≡ turn * interval = omega arith in
      cycles_more (classes_in turn) 0 (turn * interval) cycles
      ∙ ap (λ (a : ℕ). by_cycles (classes_in turn) 0 (turn * interval) ++ by_cycles (classes_in turn) a cycles) begin
