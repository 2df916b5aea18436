-- The turns of a body at an interval that keeps its costs are a legal schedule of the copies of the body.
use Rattle.std.proofs.Common.{◌≡◌, ◌≢◌, ℕ, suc, ◌+◌, ◌*◌, ◌/◌, ◌%◌, ◌-◌, ◌<◌, ◌≤◌, Bool, true, false, List, [], ◌∷◌, ◌++◌, map, length, Contains, ⊎_elim, refl, sym, ap, ◌∙◌, subst, append-nil, append_assoc, arith, rules}
use Rattle.std.specs.Prelude.{slice_index, IsTrue}
use Rattle.std.specs.List.{repeat, AllPairs}
use Rattle.std.proofs.lemmas.List.{map-append}
use Rattle.std.proofs.lemmas.Nat.{div-add-mod', mod_below, div_below, same_from_place, mul-add-lt}
use Rattle.std.proofs.lemmas.Bool.{cases_lt}
use Rattle.std.proofs.lemmas.List.Elements.{All-contains, Contains-get_or, Contains-append_left, Contains-append_right, Contains-append_cases}
use Rattle.hz_base_model.proofs.Elements.{Contains-nil, Contains-head, Contains-cons_cases, Contains-map, Contains-from_map}
use Rattle.hz_base_model.proofs.Ascending.{AllPairs-head, AllPairs-tail, AllPairs-map}
use Rattle.hz_pipeline_model.specs.Accepting.Events.{Event, issue}
use Rattle.hz_block_model.specs.Running.Blocks.{Instruction}
use Rattle.hz_block_model.specs.Dependences.Dependences.{depends, Timing, cost}
use Rattle.hz_block_model.specs.Dependences.Graphs.{edge, IsGraph}
use Rattle.hz_block_model.specs.Dependences.Orders.{IsOrder}
use Rattle.hz_block_model.proofs.Dependences.UpwardLaws.{upwards}
use Rattle.hz_block_model.specs.Scheduling.Schedules.{Graph, Slot, places, present, advance_to, spelled, spell, IsReady, Legal}
use Rattle.hz_block_model.proofs.Scheduling.OneSchedule.{Rises}
use Rattle.hz_block_model.proofs.Scheduling.SlotLaws.{below_present}
use Rattle.hz_measure_model.specs.Kernels.Turns.{repeated, turns}
use Rattle.hz_measure_model.specs.Kernels.Repeats.{KeepsCosts}
use Rattle.hz_measure_model.proofs.Kernels.UnrollLaws.{length-repeat}
use Rattle.hz_measure_model.proofs.Kernels.DepLaws.{more_copies, alike_shifted, depends_alike, IsOfCopies, CopiesKeep, three_are_enough}
use Rattle.hz_measure_model.proofs.Kernels.CycleLaws.{slot_at}
use Rattle.hz_measure_model.proofs.Kernels.PairLaws.{pair_after, pair_before, pairs_from_splits}
use Rattle.hz_measure_model.proofs.Kernels.TurnLaws.{IsOfTurn, from_turns, in_turns, turns_pairs}

tested : (b : Bool) → b ≡ true → IsTrue b
tested true e = search rules
tested false e = absurd (cc)

-- a dependence leads upwards
pub goes_up : (block : List Instruction) (i j : ℕ) → depends block i j ≡ true → i < j
goes_up block i j e = (upwards block i j (tested (depends block i j) e)).0

goes_inside : (block : List Instruction) (i j : ℕ) → depends block i j ≡ true → j < length block
goes_inside block i j e = (upwards block i j (tested (depends block i j) e)).1

-- a dependence inside one copy is one of the body
pub inside_copy : (body : List Instruction) (n k p q : ℕ) → p < length body → q < length body → depends (repeat n body) (k * length body + p) (k * length body + q) ≡ true → depends body p q ≡ true
inside_copy body n k p q low inside e =
    let up = goes_up (repeat n body) (k * length body + p) (k * length body + q) e in
    let within = goes_inside (repeat n body) (k * length body + p) (k * length body + q) e in
    let long = length-repeat n body in
    let turn : k < n = below k n (omega (arith, within, long)) in
    go (n - suc k) (omega (arith, turn)) (omega (arith, up))
  where
    below : (k n : ℕ) → k * length body + q < n * length body → k < n
    below k n lt = ⊎_elim (λ (less : k < n). less) (λ (le : n ≤ k). let h = more_copies n k (length body) le in absurd (omega arith)) (cases_lt k n)

    go : (rest : ℕ) → n ≡ k + (1 + rest) → p < q → depends body p q ≡ true
    go rest all less =
        let same : k * length body + (0 * length body + q) ≡ k * length body + q = omega arith in
        let same_q : 0 * length body + q ≡ q = omega arith in
        let shifted = alike_shifted body k 1 rest p 0 q low inside (omega arith) (omega arith) in
        sym ((λ i. depends (repeat (all i) body) (k * length body + p) (sym same i)) ∙ (depends_alike _ _ _ _ _ _ shifted ∙ (λ i. depends (append-nil body i) p (same_q i)))) ∙ e

-- the front and the back of an element
pub split_of : {X : Type 0} (xs : List X) (x : X) → Contains xs x → (before : List X) × (after : List X) × (xs ≡ before ++ x ∷ after)
split_of [] x c = absurd (Contains-nil x c)
split_of {X} (y ∷ xs) x c = ⊎_elim
    (λ (e : y ≡ x). ([], xs, (λ i. e i ∷ xs)))
    (λ (m : Contains xs x). let (before, after, is) = split_of xs x m in (y ∷ before, after, ap (λ (zs : List X). y ∷ zs) is))
    (Contains-cons_cases y x xs c)

pairs_weaker : {X : Type 0} (R S : X → X → Type 0) (xs : List X) → ((a b : X) → R a b → S a b) → AllPairs R xs → AllPairs S xs
pairs_weaker R S xs weaker h i j d lt inside = weaker _ _ (h i j d lt inside)

-- slots of different places are one where their places are
one_slot : (slots : List Slot) → AllPairs (λ a b. a.place ≢ b.place) slots → (a b : Slot) → Contains slots a → Contains slots b → a.place ≡ b.place → a ≡ b
one_slot [] pairs a b m n e = absurd (Contains-nil a m)
one_slot (z ∷ slots) pairs a b m n e =
    let head = AllPairs-head (λ a b. a.place ≢ b.place) z slots pairs in
    let tail = AllPairs-tail (λ a b. a.place ≢ b.place) z slots pairs in
    ⊎_elim
    (λ (first : z ≡ a). ⊎_elim
    (λ (second : z ≡ b). sym first ∙ second)
    (λ (later : Contains slots b). absurd (All-contains (λ b. z.place ≢ b.place) slots b head later (ap (λ (y : Slot). y.place) first ∙ e)))
    (Contains-cons_cases z b slots n))
    (λ (later : Contains slots a). ⊎_elim
    (λ (second : z ≡ b). absurd (All-contains (λ b. z.place ≢ b.place) slots a head later (ap (λ (y : Slot). y.place) second ∙ sym e)))
    (λ (also : Contains slots b). one_slot slots tail a b later also e)
    (Contains-cons_cases z b slots n))
    (Contains-cons_cases z a slots m)

-- graphs of the same classes spell the same
pub spelled_alike : (g h : Graph) → map (λ node. node.class) h.nodes ≡ map (λ node. node.class) g.nodes → (cycle : ℕ) (slots : List Slot) → spelled h cycle slots ≡ spelled g cycle slots
spelled_alike g h same cycle [] = refl
spelled_alike g h same cycle (x ∷ slots) = λ i. advance_to cycle x.cycle ++ issue (slice_index (same i) x.place) ∷ spelled_alike g h same x.cycle slots i

module _ (accepts : List Event → Type 0) (body : List Instruction) (t : Timing) (g : Graph) (graph : IsGraph body t g.edges) (many : length g.nodes ≡ length body) (slots : List Slot) (legal : Legal accepts g slots) where
  -- no slot depends on a later one, and their places are different
  record Stands (a b : Slot) : Type 0 where
    different : a.place ≢ b.place
    beyond : depends body b.place a.place ≡ true → ⊥

  whole : IsOrder (length g.nodes) (places slots)
  whole = legal.order

  apart_before : (before after : List Slot) (x : Slot) (i : ℕ) → slots ≡ before ++ x ∷ after → Contains (places before) i → i ≡ x.place → ⊥
  apart_before before after x i is c e =
      whole.once (places before) (places after) x.place (ap places is ∙ map-append (λ (y : Slot). y.place) before (x ∷ after)) (subst (Contains (places before)) e c)

  stand : AllPairs Stands slots
  stand = pairs_from_splits Stands slots (λ before after x y is c. record {
    different = λ e. apart_before before after x y.place is (Contains-map (λ (z : Slot). z.place) before y c) e;
    beyond = λ depending.
        let (front, back, at) = split_of before y c in
        let inside = goes_inside body x.place y.place depending in
        let up = goes_up body x.place y.place depending in
        let all : slots ≡ front ++ y ∷ (back ++ x ∷ after) = is ∙ (ap (λ (ys : List Slot). ys ++ x ∷ after) at ∙ append_assoc front (y ∷ back) (x ∷ after)) in
        let (z, there, place, late) = legal.kept front (back ++ x ∷ after) y all (edge body t x.place y.place) (graph.each x.place y.place (omega arith) inside depending) refl in
        apart_before before after x z.place is (subst (λ (ys : List Slot). Contains (places ys) z.place) (sym at) (subst (λ (ps : List ℕ). Contains ps z.place) (sym (map-append (λ (w : Slot). w.place) front (y ∷ back))) (Contains-append_left (places front) (places (y ∷ back)) z.place (Contains-map (λ (w : Slot). w.place) front z there)))) place;
  })

  pub in_body : (y : Slot) → Contains slots y → y.place < length body
  in_body y c = let low = whole.only y.place (Contains-map (λ (z : Slot). z.place) slots y c) in omega (arith, low, many)

  pub by_place : (a b : Slot) → Contains slots a → Contains slots b → a.place ≡ b.place → a ≡ b
  by_place = one_slot slots (pairs_weaker Stands (λ a b. a.place ≢ b.place) slots (λ a b s. s.different) stand)

  pub in_time : (y : Slot) → Contains slots y → y.cycle ≤ present 0 slots
  in_time y c = below_present slots 0 legal.rising y c

  module _ (interval n : ℕ) where
    ts : List Slot
    ts = turns (length body) interval slots n

    record Earlier (x y : Slot) : Type 0 where
      different : x.place ≢ y.place
      rises : x.cycle ≤ y.cycle
      beyond : depends (repeat n body) y.place x.place ≡ true → x.cycle < y.cycle

    earlier_turn : (x y : Slot) (f : IsOfTurn (length body) interval slots n x) (h : IsOfTurn (length body) interval slots n y) → f.turn < h.turn → x.place < y.place
    earlier_turn x y f h lt =
        let low = in_body f.slot f.there in
        let more = more_copies (suc f.turn) h.turn (length body) (omega arith) in
        omega (arith, f.place, h.place, low, more)

    stand_copied : (cycle turn : ℕ) → AllPairs (λ a b. Earlier (slot_at cycle (turn * length body + a.place)) (slot_at cycle (turn * length body + b.place))) slots
    stand_copied cycle turn = pairs_of slots stand (λ a c. in_body a c)
      where
        pairs_of : (xs : List Slot) → AllPairs Stands xs → ((a : Slot) → Contains xs a → a.place < length body) → AllPairs (λ a b. Earlier (slot_at cycle (turn * length body + a.place)) (slot_at cycle (turn * length body + b.place))) xs
        pairs_of xs pairs low i j d lt inside =
            let s = pairs i j d lt inside in
            record {
              different = λ e. s.different (omega (arith, e));
              rises = omega arith;
              beyond = λ depending. absurd (s.beyond (inside_copy body n turn _ _ (low _ (Contains-get_or xs j d inside)) (low _ (Contains-get_or xs i d (omega arith))) depending));
            }

    ordered : AllPairs Earlier (turns (length body) interval slots n)
    ordered = turns_pairs (length body) interval slots Earlier n
        (λ x y f h lt. record {
          different = λ e.
              let (turn, place) = same_from_place f.turn f.slot.place h.turn h.slot.place (length body) (in_body f.slot f.there) (in_body h.slot h.there) (sym f.place ∙ (e ∙ h.place)) in
              let one = by_place f.slot h.slot f.there h.there place in
              let same : x.cycle ≡ y.cycle = f.cycle ∙ ((λ i. turn i * interval + (one i).cycle) ∙ sym h.cycle) in
              omega (arith, same);
          rises = omega arith;
          beyond = λ depending. lt;
        })
        (λ x y f h same lt.
        let below = earlier_turn x y f h lt in
        record {
          different = λ e. omega (arith, e, below);
          rises = omega (arith, same);
          beyond = λ depending. let up = goes_up (repeat n body) y.place x.place depending in absurd (omega arith);
        })
        stand_copied
        (n * interval + (present 0 slots + 1))

    -- cycles of turns don't fall
    pub turns_rise : AllPairs Rises (turns (length body) interval slots n)
    turns_rise = pairs_weaker Earlier Rises (turns (length body) interval slots n) (λ a b e. e.rises) ordered

    -- each place of the copies is issued
    issued : (i : ℕ) → i < n * length body → (x : Slot) × Contains (turns (length body) interval slots n) x × (x.place ≡ i)
    issued i lt =
        let size : 0 < length body = some n lt in
        let parts = div-add-mod' i (length body) in
        let low = mod_below i (length body) size in
        let turn = div_below i (length body) n size lt in
        let (y, there, place) = Contains-from_map (λ (z : Slot). z.place) slots (i % length body) (whole.each (i % length body) (omega (arith, low, many))) in
        let time = in_time y there in
        let more = more_copies (i / length body) n interval (omega arith) in (
          slot_at (i / length body * interval + y.cycle) (i / length body * length body + y.place),
          in_turns (length body) interval slots n (n * interval + (present 0 slots + 1)) (i / length body) y turn there (omega arith),
          omega (arith, parts, place),
        )
      where
        some : (n : ℕ) → i < n * length body → 0 < length body
        some n lt = ⊎_elim (λ (pos : 0 < length body). pos) (λ (none : length body ≤ 0). let zero_size : length body ≡ 0 = omega arith in let product = ap (λ (m : ℕ). n * m) zero_size in absurd (omega (arith, lt, product))) (cases_lt 0 (length body))

    pub turns_order : IsOrder (n * length body) (places (turns (length body) interval slots n))
    turns_order = record {
      each = λ i lt. let (x, there, place) = issued i lt in subst (Contains (places (turns (length body) interval slots n))) place (Contains-map (λ (z : Slot). z.place) (turns (length body) interval slots n) x there);
      only = λ i c.
          let (x, there, place) = Contains-from_map (λ (z : Slot). z.place) (turns (length body) interval slots n) i c in
          let (f, soon) = from_turns (length body) interval slots n (n * interval + (present 0 slots + 1)) x there in
          let low = in_body f.slot f.there in
          let bound = mul-add-lt f.turn (length body) f.slot.place n f.low low in
          omega (arith, place, f.place, bound);
      once = λ before after i is c. pair_before (λ (a b : ℕ). a ≢ b) before after i i
          (subst (AllPairs (λ (a b : ℕ). a ≢ b)) is (AllPairs-map Earlier (λ (a b : ℕ). a ≢ b) (λ x. x.place) (λ a b e. e.different) (record { place = 0; cycle = 0 }) (turns (length body) interval slots n) ordered)) c refl;
    }

    module _ (u : Timing) (keeps : KeepsCosts body u interval slots n) (h : Graph) (copies : IsGraph (repeat n body) u h.edges) (all : length h.nodes ≡ n * length body) where
      kept : (before after : List Slot) (x : Slot) → turns (length body) interval slots n ≡ before ++ x ∷ after → IsReady h before x.cycle x.place
      kept before after x is e there to =
          let (up, inside, depending, weight) = copies.only e there in
          let long = length-repeat n body in
          let (y, found, place) = issued e.from (omega (arith, up, inside, long)) in
          let here : Contains (turns (length body) interval slots n) x = subst (λ (xs : List Slot). Contains xs x) (sym is) (Contains-append_right before (x ∷ after) x (Contains-head x after)) in
          let between : depends (repeat n body) y.place x.place ≡ true = (λ i. depends (repeat n body) (place i) (sym to i)) ∙ depending in
          let late = keeps y x found here between in
          let costs : e.cost ≡ cost (repeat n body) u y.place x.place = weight ∙ (λ i. cost (repeat n body) u (sym place i) (to i)) in
          ⊎_elim
          (λ (front : Contains before y). (y, front, place, omega (arith, late, costs)))
          (λ (rest : Contains (x ∷ after) y). ⊎_elim
          (λ (same : x ≡ y). let equal = ap (λ (z : Slot). z.place) same in absurd (omega (arith, equal, place, to, up)))
          (λ (back : Contains after y).
          let wrong = pair_after Earlier before after x y (subst (AllPairs Earlier) is ordered) back in
          let less = wrong.beyond between in
          absurd (omega (arith, less, late)))
          (Contains-cons_cases x y after rest))
          (Contains-append_cases before (x ∷ after) y (subst (λ (xs : List Slot). Contains xs y) is found))

      pub turns_legal : map (λ node. node.class) h.nodes ≡ map (λ node. node.class) (repeated g n).nodes → accepts (spell (repeated g n) (turns (length body) interval slots n)) → Legal accepts h (turns (length body) interval slots n)
      turns_legal classes accepted = record {
        order = rw all turns_order;
        rising = turns_rise;
        kept = kept;
        accepted = subst accepts (sym (spelled_alike (repeated g n) h classes 0 (turns (length body) interval slots n))) accepted;
      }

  -- a place of the body is issued at a cycle
  abbrev At : ℕ → ℕ → Type 0
  At p a = (y : Slot) × Contains slots y × (y.place ≡ p) × (y.cycle ≡ a)

  copies_from_slots : (interval n : ℕ) (u : Timing) → KeepsCosts body u interval slots n → CopiesKeep body u interval At n
  copies_from_slots interval n u keeps k p a l q b k_low l_low low inside (y, there, place, when) (z, also, at, then) depending =
      let time = in_time y there in
      let late = in_time z also in
      let more = more_copies k n interval (omega arith) in
      let further = more_copies l n interval (omega arith) in
      let h = keeps (slot_at (k * interval + y.cycle) (k * length body + y.place)) (slot_at (l * interval + z.cycle) (l * length body + z.place))
      (in_turns (length body) interval slots n (n * interval + (present 0 slots + 1)) k y k_low there (omega arith))
      (in_turns (length body) interval slots n (n * interval + (present 0 slots + 1)) l z l_low also (omega arith))
      ((λ i. depends (repeat n body) (k * length body + place i) (l * length body + at i)) ∙ depending) in
      let costs : cost (repeat n body) u (k * length body + y.place) (l * length body + z.place) ≡ cost (repeat n body) u (k * length body + p) (l * length body + q) = λ i. cost (repeat n body) u (k * length body + place i) (l * length body + at i) in
      omega (arith, h, costs, when, then)

  slots_from_copies : (interval n : ℕ) (u : Timing) → CopiesKeep body u interval At n → KeepsCosts body u interval slots n
  slots_from_copies interval n u keeps x y here there depending =
      let (f, soon) = from_turns (length body) interval slots n (n * interval + (present 0 slots + 1)) x here in
      let (h, late) = from_turns (length body) interval slots n (n * interval + (present 0 slots + 1)) y there in
      let found = keeps f.turn f.slot.place f.slot.cycle h.turn h.slot.place h.slot.cycle f.low h.low (in_body f.slot f.there) (in_body h.slot h.there) (f.slot, f.there, refl, refl) (h.slot, h.there, refl, refl)
      ((λ i. depends (repeat n body) (sym f.place i) (sym h.place i)) ∙ depending) in
      let costs : cost (repeat n body) u x.place y.place ≡ cost (repeat n body) u (f.turn * length body + f.slot.place) (h.turn * length body + h.slot.place) = λ i. cost (repeat n body) u (f.place i) (h.place i) in
      omega (arith, found, costs, f.cycle, h.cycle)

  -- the costs that three turns keep are kept by any number of them
  pub costs_of_turns : (interval : ℕ) (three u : Timing) (n : ℕ) → IsOfCopies (length body) 3 t three → IsOfCopies (length body) n t u → KeepsCosts body three interval slots 3 → KeepsCosts body u interval slots n
  costs_of_turns interval three u n of_three of_all keeps =
      slots_from_copies interval n u (three_are_enough body t three u interval At n of_three of_all (copies_from_slots interval 3 three keeps))
