-- The interval that is 1,000 cycles longer than the body's schedule repeats at once.
use Rattle.std.proofs.Common.{◌≡◌, ℕ, zero, suc, ◌+◌, ◌*◌, ◌-◌, ◌<◌, ◌≤◌, true, List, [], ◌∷◌, ◌++◌, map, length, replicate, All, Some, Contains, ⊎_elim, refl, sym, ap, ◌∙◌, subst, append-nil, append_assoc, arith}
use Rattle.std.specs.Prelude.{is_some}
use Rattle.std.specs.List.{repeat}
use Rattle.std.proofs.lemmas.Bool.{cases_lt}
use Rattle.std.proofs.lemmas.Nat.{div_below}
use Rattle.std.proofs.lemmas.List.{replicate-append-replicate}
use Rattle.std.proofs.lemmas.List.Elements.{All-nil, All-cons, All-append, Contains-append_left}
use Rattle.hz_base_model.specs.Limits.{cycle_limit}
use Rattle.hz_base_model.proofs.Elements.{Contains-head, Contains-tail}
use Rattle.hz_pipeline_model.specs.Accepting.Events.{Event, advance, IsOfClass}
use Rattle.hz_block_model.specs.Running.Blocks.{Instruction}
use Rattle.hz_block_model.specs.Dependences.Dependences.{depends, Timing, cost}
use Rattle.hz_block_model.specs.Dependences.Graphs.{edge, IsGraph}
use Rattle.hz_pipeline_model.specs.Tables.Machines.{Part, Machine, word_of, onto_states, parts_walk, machine_walk, starts_of, IsWalked, IsMachine, advance_of}
use Rattle.hz_pipeline_model.proofs.Tables.MachineLaws.{word_of-append}
use Rattle.hz_block_model.specs.Scheduling.Schedules.{Node, Graph, Slot, present, advance_to, spell, Legal}
use Rattle.hz_block_model.specs.Scheduling.Machines.{Settles}
use Rattle.hz_block_model.proofs.Scheduling.SlotLaws.{below_present, advances_later}
use Rattle.hz_block_model.proofs.Scheduling.SameSchedules.{spelled_of_class}
use Rattle.hz_measure_model.specs.Kernels.Turns.{repeated, turns_before, turns, start, stages}
use Rattle.hz_measure_model.specs.Kernels.Repeats.{KeepsCosts, Repeats}
use Rattle.hz_measure_model.proofs.Kernels.DepLaws.{IsOfCopies, alike_shifted, cost_alike, more_copies, earlier_copy}
use Rattle.hz_measure_model.proofs.Kernels.CycleLaws.{walks_alike}
use Rattle.hz_measure_model.proofs.Kernels.TurnLaws.{from_turns}
use Rattle.hz_measure_model.proofs.Kernels.LegalLaws.{split_of, in_body, by_place, goes_up, inside_copy, spelled_alike}
use Rattle.hz_measure_model.proofs.Kernels.FirstTurnLaws.{first_turn, no_turns}
use Rattle.hz_measure_model.proofs.Kernels.AdvanceLaws.{walked_on}

-- an advance may be cut in two
cut_advance : (part : Part) (t : List Event) (a b c : ℕ) → a + b ≡ c → word_of part (t ++ advance c ∷ []) ≡ word_of part ((t ++ advance a ∷ []) ++ advance b ∷ [])
cut_advance part t a b c is =
    word_of-append part t (advance c ∷ [])
    ∙ (ap (λ (w : List ℕ). word_of part t ++ w) (
    append-nil (replicate c (advance_of part))
    ∙ (ap (λ (n : ℕ). replicate n (advance_of part)) (sym is)
    ∙ (sym (replicate-append-replicate a b (advance_of part))
    ∙ (λ i. sym (append-nil (replicate a (advance_of part))) i ++ sym (append-nil (replicate b (advance_of part))) i))))
    ∙ (sym (append_assoc (word_of part t) (replicate a (advance_of part) ++ []) (replicate b (advance_of part) ++ []))
    ∙ (ap (λ (w : List ℕ). w ++ (replicate b (advance_of part) ++ [])) (sym (word_of-append part t (advance a ∷ [])))
    ∙ sym (word_of-append part (t ++ advance a ∷ []) (advance b ∷ [])))))

module _ (m : Machine) (machine : IsMachine m) (settle : Settles m) where
  -- after any events so many cycles more lead to the start
  settles_later : (t : List Event) (c : ℕ) → cycle_limit ≤ c → All (IsOfClass (length m.classes)) t → IsWalked m t → machine_walk m (t ++ advance c ∷ []) ≡ Some (starts_of m)
  settles_later t c le all walked =
      walks_alike m.parts (starts_of m) (t ++ advance c ∷ []) ((t ++ advance (c - cycle_limit) ∷ []) ++ advance cycle_limit ∷ []) (λ part. cut_advance part t (c - cycle_limit) cycle_limit c (omega (arith, le)))
      ∙ settle.settles (t ++ advance (c - cycle_limit) ∷ [])
      (All-append (IsOfClass (length m.classes)) t (advance (c - cycle_limit) ∷ []) all (All-cons (IsOfClass (length m.classes)) (advance (c - cycle_limit)) [] tt (All-nil (IsOfClass (length m.classes)))))
      (walked_on m machine t (c - cycle_limit) walked)

  module _ (body : List Instruction) (t three : Timing) (g : Graph) (graph : IsGraph body t g.edges) (many : length g.nodes ≡ length body) (ranges : All (λ n. n.class < length m.classes) g.nodes)
      (slots : List Slot) (legal : Legal (IsWalked m) g slots) (of_three : IsOfCopies (length body) 3 t three) (small : (i j : ℕ) → depends (repeat 3 body) i j ≡ true → cost (repeat 3 body) three i j ≤ 1000) where
    time_of : (y : Slot) → Contains slots y → y.cycle ≤ present 0 slots
    time_of y c = below_present slots 0 legal.rising y c

    place_of : (y : Slot) → Contains slots y → y.place < length body
    place_of y c = in_body (IsWalked m) body t g graph many slots legal y c

    pub no_stages : stages (present 0 slots + 1000) slots ≡ 0
    no_stages = let less = div_below (present 0 slots) (present 0 slots + 1000) 1 (omega arith) (omega arith) in omega (arith, less)

    -- ---- costs

    same_cost : (k rest p q : ℕ) → k + (1 + rest) ≡ 3 → p < q → p < length body → q < length body → cost (repeat 3 body) three (k * length body + p) (k * length body + q) ≡ cost body t p q
    same_cost k rest p q all less low inside =
        let shifted = alike_shifted body k 1 rest p 0 q low inside (omega arith) (omega arith) in
        let place : k * length body + (0 * length body + q) ≡ k * length body + q = omega arith in
        let second : 0 * length body + q ≡ q = omega arith in
        let few : k < 3 = omega (arith, all) in
        (λ i. cost (repeat (sym all i) body) three (k * length body + p) (sym place i))
        ∙ (cost_alike _ _ _ _ _ _ shifted three t
        (ap (three.number (k * length body + p)) place ∙ (of_three.number k k p q few few low inside ∙ ap (t.number p) (sym second)))
        (of_three.latency k p few low)
        (ap (three.latency) place ∙ (of_three.latency k q few inside ∙ ap (t.latency) (sym second)))
        ∙ (λ i. cost (append-nil body i) t p (second i)))

    -- in one turn the schedule keeps them
    kept_inside : (k : ℕ) (y z : Slot) → k < 3 → Contains slots y → Contains slots z → depends (repeat 3 body) (k * length body + y.place) (k * length body + z.place) ≡ true → y.cycle + cost (repeat 3 body) three (k * length body + y.place) (k * length body + z.place) ≤ z.cycle
    kept_inside k y z few here there depending =
        let low = place_of y here in
        let inside = place_of z there in
        let up = goes_up (repeat 3 body) (k * length body + y.place) (k * length body + z.place) depending in
        let own = inside_copy body 3 k y.place z.place low inside depending in
        let less : y.place < z.place = omega (arith, up) in
        let (front, back, at) = split_of slots z there in
        let (w, found, place, late) = legal.kept front back z at (edge body t y.place z.place) (graph.each y.place z.place low inside own) refl in
        let same : w ≡ y = by_place (IsWalked m) body t g graph many slots legal w y (subst (λ (xs : List Slot). Contains xs w) (sym at) (Contains-append_left front (z ∷ back) w found)) here place in
        let cycles = ap (λ (x : Slot). x.cycle) same in
        let costs = same_cost k (2 - k) y.place z.place (omega (arith, few)) less low inside in
        omega (arith, late, cycles, costs)

    -- another turn is far away
    pub long_keeps : KeepsCosts body three (present 0 slots + 1000) slots 3
    long_keeps x y here there depending =
        let (f, soon) = from_turns (length body) (present 0 slots + 1000) slots 3 (3 * (present 0 slots + 1000) + (present 0 slots + 1)) x here in
        let (h, late) = from_turns (length body) (present 0 slots + 1000) slots 3 (3 * (present 0 slots + 1000) + (present 0 slots + 1)) y there in
        let up = goes_up (repeat 3 body) x.place y.place depending in
        let order = earlier_copy f.turn h.turn f.slot.place h.slot.place (length body) (place_of h.slot h.there) (omega (arith, up, f.place, h.place)) in
        ⊎_elim
        (λ (less : f.turn < h.turn).
        let time = time_of f.slot f.there in
        let low = small x.place y.place depending in
        let more = more_copies (suc f.turn) h.turn (present 0 slots + 1000) (omega arith) in
        omega (arith, time, low, more, f.cycle, h.cycle))
        (λ (le : h.turn ≤ f.turn).
        let same : h.turn ≡ f.turn = omega (arith, order) in
        let second : y.place ≡ f.turn * length body + h.slot.place = h.place ∙ ap (λ (k : ℕ). k * length body + h.slot.place) same in
        let when : y.cycle ≡ f.turn * (present 0 slots + 1000) + h.slot.cycle = h.cycle ∙ ap (λ (k : ℕ). k * (present 0 slots + 1000) + h.slot.cycle) same in
        let kept = kept_inside f.turn f.slot h.slot f.low f.there h.there ((λ i. depends (repeat 3 body) (sym f.place i) (sym second i)) ∙ depending) in
        let costs : cost (repeat 3 body) three x.place y.place ≡ cost (repeat 3 body) three (f.turn * length body + f.slot.place) (f.turn * length body + h.slot.place) = λ i. cost (repeat 3 body) three (f.place i) (second i) in
        omega (arith, kept, costs, f.cycle, when))
        (cases_lt f.turn h.turn)

    -- ---- states

    one_copy : map (λ node. node.class) (repeated g 1).nodes ≡ map (λ node. node.class) g.nodes
    one_copy = ap (map (λ (node : Node). node.class)) (append-nil g.nodes)

    all_soon : (cycles : ℕ) → present 0 slots < cycles → All (λ x. x.cycle < cycles) slots
    all_soon cycles lt = each slots (λ y c. let time = time_of y c in omega arith)
      where
        each : (xs : List Slot) → ((y : Slot) → Contains xs y → y.cycle < cycles) → All (λ x. x.cycle < cycles) xs
        each [] h = All-nil (λ x. x.cycle < cycles)
        each (x ∷ xs) h = All-cons (λ x. x.cycle < cycles) x xs (h x (Contains-head x xs)) (each xs (λ y c. h y (Contains-tail x y xs c)))

    -- the trace of the first turn is the schedule's
    first_trace : (interval cycles : ℕ) → present 0 slots < cycles → spell (repeated g 1) (turns_before (length body) interval slots 1 cycles) ≡ spell g slots
    first_trace interval cycles lt = ap (spell (repeated g 1)) (first_turn (length body) interval slots cycles legal.rising (all_soon cycles lt)) ∙ spelled_alike g (repeated g 1) one_copy 0 slots

    within : All (λ x. x.place < length g.nodes) slots
    within = each slots (λ y c. let low = place_of y c in omega (arith, many))
      where
        each : (xs : List Slot) → ((y : Slot) → Contains xs y → y.place < length g.nodes) → All (λ x. x.place < length g.nodes) xs
        each [] h = All-nil (λ x. x.place < length g.nodes)
        each (x ∷ xs) h = All-cons (λ x. x.place < length g.nodes) x xs (h x (Contains-head x xs)) (each xs (λ y c. h y (Contains-tail x y xs c)))

    second_start : machine_walk m (start (length body) (present 0 slots + 1000) slots g 1) ≡ Some (starts_of m)
    second_start =
        let cycles : 1 * (present 0 slots + 1000) ≡ present 0 slots + 1000 = omega arith in
        let last : present 0 slots < 1 * (present 0 slots + 1000) = omega arith in
        let slots_are = first_turn (length body) (present 0 slots + 1000) slots (1 * (present 0 slots + 1000)) legal.rising (all_soon (1 * (present 0 slots + 1000)) last) in
        let gap : 1 * (present 0 slots + 1000) - present 0 slots ≡ 1000 = omega arith in
        ap (machine_walk m) (
        (λ i. first_trace (present 0 slots + 1000) (1 * (present 0 slots + 1000)) last i ++ advance_to (present 0 (slots_are i)) (1 * (present 0 slots + 1000)))
        ∙ ap (λ (t : List Event). spell g slots ++ t) (advances_later (present 0 slots) (1 * (present 0 slots + 1000)) last ∙ ap (λ (n : ℕ). advance n ∷ []) gap))
        ∙ settles_later (spell g slots) 1000 (omega arith) (spelled_of_class (length m.classes) g ranges 0 slots within) legal.accepted

    first_start : machine_walk m (start (length body) (present 0 slots + 1000) slots g 0) ≡ Some (starts_of m)
    first_start =
        let none : 0 * (present 0 slots + 1000) ≡ 0 = omega arith in
        ap (machine_walk m) ((λ i. spell (repeated g 0) (no_turns (length body) (present 0 slots + 1000) slots (0 * (present 0 slots + 1000)) i) ++ advance_to (present 0 (no_turns (length body) (present 0 slots + 1000) slots (0 * (present 0 slots + 1000)) i)) (none i)))
        ∙ nothing m.parts
      where
        nothing : (parts : List Part) → parts_walk parts (replicate (length parts) 0) [] ≡ Some (replicate (length parts) 0)
        nothing [] = refl
        nothing (part ∷ parts) = ap (onto_states (Some 0)) (nothing parts)

    -- ---- the interval repeats

    pub long_repeats : Repeats m body three g slots (present 0 slots + 1000) 0 1
    long_repeats = record {
      few = omega (arith, no_stages);
      costs = long_keeps;
      settled = omega (arith, no_stages);
      before = omega arith;
      soon = omega arith;
      walked = ap is_some first_start;
      same = first_start ∙ sym second_start;
      different = λ a b low lt high e. omega arith;
      each = λ count le. each_count count le;
    }
      where
        each_count : (count : ℕ) → count ≤ 1 → IsWalked m (spell (repeated g count) (turns (length body) (present 0 slots + 1000) slots count))
        each_count zero le =
            ap (λ (xs : List Slot). is_some (machine_walk m (spell (repeated g 0) xs))) (no_turns (length body) (present 0 slots + 1000) slots (0 * (present 0 slots + 1000) + (present 0 slots + 1)))
            ∙ ap is_some (nothing m.parts)
          where
            nothing : (parts : List Part) → parts_walk parts (replicate (length parts) 0) [] ≡ Some (replicate (length parts) 0)
            nothing [] = refl
            nothing (part ∷ parts) = ap (onto_states (Some 0)) (nothing parts)
        each_count (suc zero) le =
            ap (λ (t : List Event). is_some (machine_walk m t)) (first_trace (present 0 slots + 1000) (1 * (present 0 slots + 1000) + (present 0 slots + 1)) (omega arith))
            ∙ legal.accepted
        each_count (suc (suc count)) le = absurd (omega arith)
