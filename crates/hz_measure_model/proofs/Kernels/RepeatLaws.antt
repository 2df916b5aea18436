-- Where the states at two starts are the same, the turns are walked for ever, and drained after any number of them.
use Rattle.std.proofs.Common.{◌≡◌, ℕ, zero, suc, ◌+◌, ◌*◌, ◌-◌, ◌<◌, ◌≤◌, ◌==◌, Bool, true, false, cond, List, [], ◌∷◌, ◌++◌, map, length, All, Option, Some, None, ⊎_elim, refl, sym, ap, ◌∙◌, append-nil, arith}
use Rattle.std.specs.Prelude.{slice_index, nat_lt, is_some, unwrap_or, option_and_then}
use Rattle.std.specs.List.{range_with_len, repeat}
use Rattle.std.proofs.lemmas.Bool.{cases_lt}
use Rattle.std.proofs.lemmas.Nat.{mod_below, div-add-mod'}
use Rattle.std.proofs.lemmas.Option.{unwrap_or-slice_get}
use Rattle.std.proofs.lemmas.List.{length-map}
use Rattle.std.proofs.lemmas.List.Elements.{All-head, All-tail, All-filter}
use Rattle.hz_pipeline_model.specs.Accepting.Events.{Event, advance}
use Rattle.hz_pipeline_model.specs.Tables.Machines.{Machine, parts_walk, starts_of, machine_walk, IsWalked, IsMachine}
use Rattle.hz_pipeline_model.proofs.Tables.MachineLaws.{parts_walk-append}
use Rattle.hz_block_model.specs.Scheduling.Schedules.{Node, Graph, Slot, class_at, present, advance_to, spell}
use Rattle.hz_measure_model.specs.Kernels.Turns.{repeated, issued_by, issued_at, turns, start, stages}
use Rattle.hz_measure_model.proofs.Kernels.UnrollLaws.{get-repeat}
use Rattle.hz_measure_model.proofs.Kernels.DepLaws.{more_copies}
use Rattle.hz_measure_model.proofs.Kernels.RangeLaws.{range-agree, map-flat_map}
use Rattle.hz_measure_model.proofs.Kernels.CycleLaws.{by_cycles, slots_from, walk_by_cycles}
use Rattle.hz_measure_model.proofs.Kernels.PeriodLaws.{classes_by, classes_in, cycles_agree, period, drain, period_again, drain_again, one_period_more, drained}
use Rattle.hz_measure_model.proofs.Kernels.AdvanceLaws.{walked_on}

-- ---- classes of copies

pub map-repeat : {X Y : Type 0} (f : X → Y) (n : ℕ) (xs : List X) → map f (repeat n xs) ≡ repeat n (map f xs)
map-repeat f zero xs = refl
map-repeat {X} {Y} f (suc n) xs = both xs (repeat n xs) ∙ ap (λ (ys : List Y). map f xs ++ ys) (map-repeat f n xs)
  where
    both : (us vs : List X) → map f (us ++ vs) ≡ map f us ++ map f vs
    both [] vs = refl
    both (u ∷ us) vs = ap (λ (ys : List Y). f u ∷ ys) (both us vs)

-- an instruction of a copy has the class of that of the body
pub class_of_copy : (g : Graph) (n k p : ℕ) → k < n → p < length g.nodes → class_at (repeated g n) (k * length g.nodes + p) ≡ class_at g p
class_of_copy g n k p lt low =
    let classes = map (λ (node : Node). node.class) g.nodes in
    let long : length classes ≡ length g.nodes = length-map g.nodes (λ (node : Node). node.class) in
    ap (λ (cs : List ℕ). slice_index cs (k * length g.nodes + p)) (map-repeat (λ (node : Node). node.class) n g.nodes)
    ∙ (ap (λ (l : ℕ). slice_index (repeat n classes) (k * l + p)) (sym long)
    ∙ (sym (unwrap_or-slice_get (repeat n classes) (k * length classes + p) 0)
    ∙ (ap (λ (o : Option ℕ). unwrap_or o 0) (get-repeat n k p classes lt (omega (arith, long)))
    ∙ unwrap_or-slice_get classes p 0)))

module _ (interval : ℕ) (slots : List Slot) (g : Graph) (within : All (λ x. x.place < length g.nodes) slots) where
  size : ℕ
  size = length g.nodes

  same_classes : (n k : ℕ) → k < n → (xs : List Slot) → All (λ x. x.place < length g.nodes) xs → map (class_at (repeated g n)) (map (λ x. k * length g.nodes + x.place) xs) ≡ map (λ x. class_at g x.place) xs
  same_classes n k lt [] all = refl
  same_classes n k lt (x ∷ xs) all =
      let first = class_of_copy g n k x.place lt (All-head (λ x. x.place < length g.nodes) x xs all) in
      let rest = same_classes n k lt xs (All-tail (λ x. x.place < length g.nodes) x xs all) in
      λ i. first i ∷ rest i

  pub classes_issued : (n cycle : ℕ) → map (class_at (repeated g n)) (issued_at (length g.nodes) interval slots n cycle) ≡ classes_in interval slots g n cycle
  classes_issued n cycle =
      map-flat_map (class_at (repeated g n)) (λ turn. map (λ x. turn * length g.nodes + x.place) (issued_by interval slots turn cycle)) (range_with_len 0 n)
      ∙ range-agree (λ turn. map (class_at (repeated g n)) (map (λ x. turn * length g.nodes + x.place) (issued_by interval slots turn cycle))) (λ turn. classes_by interval slots g turn cycle) 0 n
      (λ turn low high. same_classes n turn (omega (arith, high)) (issued_by interval slots turn cycle) (All-filter (λ x. turn * interval + x.cycle == cycle) (λ x. x.place < length g.nodes) slots within))

-- ---- states at starts

-- the states after events, from states if there are any
abbrev pub on : Machine → List Event → Option (List ℕ) → Option (List ℕ)
on m t from = option_and_then (λ states. parts_walk m.parts states t) from

module _ (m : Machine) (interval : ℕ) (slots : List Slot) (g : Graph) (within : All (λ x. x.place < length g.nodes) slots) where
  -- the states at the start of a turn
  abbrev pub edge : ℕ → Option (List ℕ)
  edge turn = machine_walk m (start (length g.nodes) interval slots g turn)

  pub walked_cycles : (n cycles : ℕ)
      → machine_walk m (spell (repeated g n) (slots_from (issued_at (length g.nodes) interval slots n) 0 cycles) ++ advance_to (present 0 (slots_from (issued_at (length g.nodes) interval slots n) 0 cycles)) cycles)
      ≡ parts_walk m.parts (starts_of m) (by_cycles (classes_in interval slots g n) 0 cycles)
  walked_cycles n cycles =
      walk_by_cycles m.parts (starts_of m) (repeated g n) (issued_at (length g.nodes) interval slots n) cycles
      ∙ ap (parts_walk m.parts (starts_of m)) (cycles_agree interval slots g (λ c. map (class_at (repeated g n)) (issued_at (length g.nodes) interval slots n c)) (classes_in interval slots g n) 0 cycles (λ c low high. classes_issued interval slots g within n c))

  pub edge_cycles : (turn : ℕ) → edge turn ≡ parts_walk m.parts (starts_of m) (by_cycles (classes_in interval slots g turn) 0 (turn * interval))
  edge_cycles turn = walked_cycles turn (turn * interval)

  pub edge_next : (turn : ℕ) → edge (suc turn) ≡ on m (period interval slots g turn) (edge turn)
  edge_next turn =
      edge_cycles (suc turn)
      ∙ (ap (parts_walk m.parts (starts_of m)) (one_period_more interval slots g turn)
      ∙ (parts_walk-append m.parts (starts_of m) (by_cycles (classes_in interval slots g turn) 0 (turn * interval)) (period interval slots g turn)
      ∙ ap (on m (period interval slots g turn)) (sym (edge_cycles turn))))

  -- the trace of so many turns, advanced after the last cycle
  abbrev advanced : ℕ → List Event
  advanced n = spell (repeated g n) (turns (length g.nodes) interval slots n) ++ advance_to (present 0 (turns (length g.nodes) interval slots n)) (n * interval + (present 0 slots + 1))

  whole : (n : ℕ) → machine_walk m (advanced n) ≡ on m (drain interval slots g (present 0 slots + 1) n) (edge n)
  whole n =
      walked_cycles n (n * interval + (present 0 slots + 1))
      ∙ (ap (parts_walk m.parts (starts_of m)) (drained interval slots g n (present 0 slots + 1))
      ∙ (parts_walk-append m.parts (starts_of m) (by_cycles (classes_in interval slots g n) 0 (n * interval)) (drain interval slots g (present 0 slots + 1) n)
      ∙ ap (on m (drain interval slots g (present 0 slots + 1) n)) (sym (edge_cycles n))))

  -- ---- walked, with the last advance or without

  pub front_walked : (s t : List Event) → IsWalked m (s ++ t) → IsWalked m s
  front_walked s t walked = go (machine_walk m s) (ap is_some (sym (parts_walk-append m.parts (starts_of m) s t)) ∙ walked)
    where
      go : (o : Option (List ℕ)) → is_some (on m t o) ≡ true → is_some o ≡ true
      go None e = e
      go (Some states) e = refl

  module _ (machine : IsMachine m) where
    pub walked_to : (t : List Event) (from to : ℕ) → IsWalked m t → IsWalked m (t ++ advance_to from to)
    walked_to t from to walked = go (nat_lt from to)
      where
        go : (b : Bool) → IsWalked m (t ++ cond b (advance (to - from) ∷ []) [])
        go true = walked_on m machine t (to - from) walked
        go false = ap (λ (s : List Event). is_some (machine_walk m s)) (append-nil t) ∙ walked

    -- A turn is far enough on: its stages have begun.
    module _ (all : All (λ x. x.cycle ≤ present 0 slots) slots) (some : 0 < interval) where
      far : (turn : ℕ) → stages interval slots ≤ turn → present 0 slots < suc turn * interval
      far turn le =
          let parts = div-add-mod' (present 0 slots) interval in
          let small = mod_below (present 0 slots) interval some in
          let more = more_copies (stages interval slots) turn interval le in
          omega (arith, parts, small, more)

      steady : (k : ℕ) → period interval slots g (stages interval slots + k) ≡ period interval slots g (stages interval slots)
      steady zero = ap (period interval slots g) (let same : stages interval slots + 0 ≡ stages interval slots = omega arith in same)
      steady (suc k) =
          ap (period interval slots g) (let same : stages interval slots + suc k ≡ suc (stages interval slots + k) = omega arith in same)
          ∙ (period_again interval slots g (present 0 slots) all (stages interval slots + k) (far (stages interval slots + k) (omega arith)) ∙ steady k)

      steadily_drained : (k : ℕ) → drain interval slots g (present 0 slots + 1) (stages interval slots + k) ≡ drain interval slots g (present 0 slots + 1) (stages interval slots)
      steadily_drained zero = ap (drain interval slots g (present 0 slots + 1)) (let same : stages interval slots + 0 ≡ stages interval slots = omega arith in same)
      steadily_drained (suc k) =
          ap (drain interval slots g (present 0 slots + 1)) (let same : stages interval slots + suc k ≡ suc (stages interval slots + k) = omega arith in same)
          ∙ (drain_again interval slots g (present 0 slots) all (present 0 slots + 1) (stages interval slots + k) (far (stages interval slots + k) (omega arith)) ∙ steadily_drained k)

      -- from the states at one start those at the next follow
      step : (a : ℕ) → stages interval slots ≤ a → edge (suc a) ≡ on m (period interval slots g (stages interval slots)) (edge a)
      step a le =
          let k = a - stages interval slots in
          let is : a ≡ stages interval slots + (a - stages interval slots) = omega (arith, le) in
          edge_next a ∙ ap (λ (t : List Event). on m t (edge a)) (ap (period interval slots g) is ∙ steady (a - stages interval slots))

      last_step : (a : ℕ) → stages interval slots ≤ a → machine_walk m (advanced a) ≡ on m (drain interval slots g (present 0 slots + 1) (stages interval slots)) (edge a)
      last_step a le =
          let is : a ≡ stages interval slots + (a - stages interval slots) = omega (arith, le) in
          whole a ∙ ap (λ (t : List Event). on m t (edge a)) (ap (drain interval slots g (present 0 slots + 1)) is ∙ steadily_drained (a - stages interval slots))

      module _ (first second : ℕ) (settled : stages interval slots ≤ first) (before : first < second) (same : edge first ≡ edge second) where
        -- so all starts after the two are the same too
        pub same_on : (j : ℕ) → edge (first + j) ≡ edge (second + j)
        same_on zero =
            let one : first + 0 ≡ first = omega arith in
            let other : second + 0 ≡ second = omega arith in
            ap edge one ∙ (same ∙ sym (ap edge other))
        same_on (suc j) =
            let one : first + suc j ≡ suc (first + j) = omega arith in
            let other : second + suc j ≡ suc (second + j) = omega arith in
            ap edge one ∙ (step (first + j) (omega (arith, settled)) ∙ (ap (on m (period interval slots g (stages interval slots))) (same_on j)
            ∙ (sym (step (second + j) (omega (arith, settled, before))) ∙ sym (ap edge other))))

        -- where they are walked up to the second, they are walked for ever
        module _ (each : (n : ℕ) → n ≤ second → IsWalked m (spell (repeated g n) (turns (length g.nodes) interval slots n))) where
          within_fuel : (fuel n : ℕ) → n < fuel → IsWalked m (advanced n)
          within_fuel zero n lt = absurd (omega arith)
          within_fuel (suc fuel) n lt = ⊎_elim
              (λ (later : second < n).
              let j : ℕ = n - second in
              let is : n ≡ second + (n - second) = omega (arith, later) in
              let low : first + (n - second) < fuel = omega (arith, later, before, lt) in
              let sooner = within_fuel fuel (first + (n - second)) low in
              ap is_some (
              ap (λ (k : ℕ). machine_walk m (advanced k)) is
              ∙ (last_step (second + (n - second)) (omega (arith, settled, before))
              ∙ (ap (on m (drain interval slots g (present 0 slots + 1) (stages interval slots))) (sym (same_on (n - second)))
              ∙ sym (last_step (first + (n - second)) (omega (arith, settled))))))
              ∙ sooner)
              (λ (soon : n ≤ second). walked_to (spell (repeated g n) (turns (length g.nodes) interval slots n)) (present 0 (turns (length g.nodes) interval slots n)) (n * interval + (present 0 slots + 1)) (each n soon))
              (cases_lt second n)

          pub for_ever : (n : ℕ) → IsWalked m (spell (repeated g n) (turns (length g.nodes) interval slots n))
          for_ever n = front_walked (spell (repeated g n) (turns (length g.nodes) interval slots n)) (advance_to (present 0 (turns (length g.nodes) interval slots n)) (n * interval + (present 0 slots + 1))) (within_fuel (suc n) n (omega arith))
