-- The slots of turns: which they are, and in which order they stand.
use Rattle.std.proofs.Common.{◌≡◌, ℕ, ◌+◌, ◌*◌, ◌<◌, ◌==◌, List, map, Contains, refl, sym, ap, ◌∙◌, subst, arith}
use Rattle.std.specs.List.{range_with_len, AllPairs}
use Rattle.std.proofs.lemmas.Bool.{eqb-true, eq-eqb}
use Rattle.std.proofs.lemmas.List.Kept.{AllPairs-filter}
use Rattle.hz_base_model.proofs.Elements.{Contains-map, Contains-from_map, Contains-filter, Contains-from_filter}
use Rattle.hz_base_model.proofs.Ascending.{AllPairs-map}
use Rattle.hz_block_model.specs.Scheduling.Schedules.{Slot}
use Rattle.hz_measure_model.specs.Kernels.Turns.{issued_by, issued_at, turns_before}
use Rattle.hz_measure_model.proofs.Kernels.RangeLaws.{map-flat_map}
use Rattle.hz_measure_model.proofs.Kernels.CycleLaws.{slot_at}
use Rattle.hz_measure_model.proofs.Kernels.PairLaws.{in_range, from_range, pairs_range}

module _ (size interval : ℕ) (slots : List Slot) where
  -- A slot of so many turns: its turn, and the slot of the schedule.
  pub record IsOfTurn (count : ℕ) (x : Slot) : Type 0 where
    pub turn : ℕ
    pub slot : Slot
    pub low : turn < count
    pub there : Contains slots slot
    pub place : x.place ≡ turn * size + slot.place
    pub cycle : x.cycle ≡ turn * interval + slot.cycle

  of_row : (count c : ℕ) (x : Slot) → Contains (map (slot_at c) (issued_at size interval slots count c)) x → IsOfTurn count x × (x.cycle ≡ c)
  of_row count c x inside =
      let (p, row, is) = Contains-from_map (slot_at c) (issued_at size interval slots count c) x inside in
      let r = from_range (λ turn. map (λ y. turn * size + y.place) (issued_by interval slots turn c)) 0 count p row in
      let (y, kept, at) = Contains-from_map (λ (z : Slot). r.number * size + z.place) (issued_by interval slots r.number c) p r.there in
      let (there, passes) = Contains-from_filter (λ (z : Slot). r.number * interval + z.cycle == c) y slots kept in
      let when = eqb-true (r.number * interval + y.cycle) c passes in (
        record {
          turn = r.number;
          slot = y;
          low = let high = r.high in omega arith;
          there = there;
          place = ap (λ (z : Slot). z.place) (sym is) ∙ sym at;
          cycle = ap (λ (z : Slot). z.cycle) (sym is) ∙ sym when;
        },
        ap (λ (z : Slot). z.cycle) (sym is),
      )

  pub from_turns : (count cycles : ℕ) (x : Slot) → Contains (turns_before size interval slots count cycles) x → IsOfTurn count x × (x.cycle < cycles)
  from_turns count cycles x inside =
      let r = from_range (λ c. map (slot_at c) (issued_at size interval slots count c)) 0 cycles x inside in
      let (is, when) = of_row count r.number x r.there in
      (is, let high = r.high in omega arith)

  pub in_turns : (count cycles turn : ℕ) (y : Slot) → turn < count → Contains slots y → turn * interval + y.cycle < cycles → Contains (turns_before size interval slots count cycles) (slot_at (turn * interval + y.cycle) (turn * size + y.place))
  in_turns count cycles turn y low there soon =
      let c = turn * interval + y.cycle in
      in_range (λ c. map (slot_at c) (issued_at size interval slots count c)) 0 cycles (turn * interval + y.cycle) (slot_at (turn * interval + y.cycle) (turn * size + y.place)) (omega arith) (omega arith)
      (Contains-map (slot_at (turn * interval + y.cycle)) (issued_at size interval slots count (turn * interval + y.cycle)) (turn * size + y.place)
      (in_range (λ k. map (λ z. k * size + z.place) (issued_by interval slots k (turn * interval + y.cycle))) 0 count turn (turn * size + y.place) (omega arith) (omega arith)
      (Contains-map (λ (z : Slot). turn * size + z.place) (issued_by interval slots turn (turn * interval + y.cycle)) y
      (Contains-filter (λ (z : Slot). turn * interval + z.cycle == turn * interval + y.cycle) y (eq-eqb _ _ refl) slots there))))

  -- ---- order

  module _ (R : Slot → Slot → Type 0) (count : ℕ)
      (later : (x y : Slot) → IsOfTurn count x → IsOfTurn count y → x.cycle < y.cycle → R x y)
      (turned : (x y : Slot) (f : IsOfTurn count x) (h : IsOfTurn count y) → x.cycle ≡ y.cycle → f.turn < h.turn → R x y)
      (c_in : (cycle turn : ℕ) → AllPairs (λ a b. R (slot_at cycle (turn * size + a.place)) (slot_at cycle (turn * size + b.place))) slots) where
    no_slot : Slot
    no_slot = record { place = 0; cycle = 0 }

    of_part : (c turn : ℕ) (x : Slot) → turn < count → Contains (map (slot_at c) (map (λ y. turn * size + y.place) (issued_by interval slots turn c))) x → (f : IsOfTurn count x) × (f.turn ≡ turn) × (x.cycle ≡ c)
    of_part c turn x low inside =
        let (p, row, is) = Contains-from_map (slot_at c) (map (λ y. turn * size + y.place) (issued_by interval slots turn c)) x inside in
        let (y, kept, at) = Contains-from_map (λ (z : Slot). turn * size + z.place) (issued_by interval slots turn c) p row in
        let (there, passes) = Contains-from_filter (λ (z : Slot). turn * interval + z.cycle == c) y slots kept in
        let when = eqb-true (turn * interval + y.cycle) c passes in (
          record {
            turn = turn;
            slot = y;
            low = low;
            there = there;
            place = ap (λ (z : Slot). z.place) (sym is) ∙ sym at;
            cycle = ap (λ (z : Slot). z.cycle) (sym is) ∙ sym when;
          },
          refl,
          ap (λ (z : Slot). z.cycle) (sym is),
        )

    row_pairs : (c : ℕ) → AllPairs R (map (slot_at c) (issued_at size interval slots count c))
    row_pairs c = subst (AllPairs R) (sym (map-flat_map (slot_at c) (λ turn. map (λ y. turn * size + y.place) (issued_by interval slots turn c)) (range_with_len 0 count)))
        (pairs_range R (λ turn. map (slot_at c) (map (λ y. turn * size + y.place) (issued_by interval slots turn c))) 0 count
        (λ turn low high.
        AllPairs-map (λ p q. R (slot_at c p) (slot_at c q)) R (slot_at c) (λ p q r. r) 0 (map (λ y. turn * size + y.place) (issued_by interval slots turn c))
        (AllPairs-map (λ a b. R (slot_at c (turn * size + a.place)) (slot_at c (turn * size + b.place))) (λ p q. R (slot_at c p) (slot_at c q)) (λ y. turn * size + y.place) (λ a b r. r) no_slot (issued_by interval slots turn c)
        (AllPairs-filter (λ a b. R (slot_at c (turn * size + a.place)) (slot_at c (turn * size + b.place))) (λ y. turn * interval + y.cycle == c) slots (c_in c turn))))
        (λ k l low lt high x y m n.
        let (f, is, when) = of_part c k x (omega arith) m in
        let (h, at, then) = of_part c l y (omega arith) n in
        turned x y f h (when ∙ sym then) (omega arith)))

    pub turns_pairs : (cycles : ℕ) → AllPairs R (turns_before size interval slots count cycles)
    turns_pairs cycles = pairs_range R (λ c. map (slot_at c) (issued_at size interval slots count c)) 0 cycles
        (λ c low high. row_pairs c)
        (λ c d low lt high x y m n.
        let (f, when) = of_row count c x m in
        let (h, then) = of_row count d y n in
        later x y f h (omega arith))
