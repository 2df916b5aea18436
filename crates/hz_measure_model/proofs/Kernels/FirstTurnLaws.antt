-- One turn alone is the schedule of the body.
use Rattle.std.proofs.Common.{◌≡◌, ℕ, zero, suc, ◌+◌, ◌*◌, ◌<◌, ◌≤◌, ◌==◌, Bool, false, cond, List, [], ◌∷◌, ◌++◌, map, All, ⊎_elim, refl, sym, ap, ◌∙◌, append-nil, arith}
use Rattle.std.specs.List.{filter, flat_map, range_with_len, AllPairs}
use Rattle.std.proofs.lemmas.Bool.{cases_lt, cases_eq, eq-eqb, ne_eqb}
use Rattle.std.proofs.lemmas.List.Elements.{All-nil, All-cons, All-head, All-tail, All-weaker}
use Rattle.hz_base_model.proofs.Ascending.{AllPairs-head, AllPairs-tail}
use Rattle.hz_block_model.specs.Scheduling.Schedules.{Slot}
use Rattle.hz_block_model.proofs.Scheduling.OneSchedule.{Rises}
use Rattle.hz_measure_model.specs.Kernels.Turns.{issued_by, issued_at, turns_before}
use Rattle.hz_measure_model.proofs.Kernels.RangeLaws.{range-agree, filter_none}
use Rattle.hz_measure_model.proofs.Kernels.CycleLaws.{slot_at}

-- the slots of a cycle
abbrev at_cycle : List Slot → ℕ → List Slot
at_cycle slots c = filter (λ x. x.cycle == c) slots

-- a slot of no later cycle is left out
skip_first : (x : Slot) (slots : List Slot) (a n : ℕ) → x.cycle < a → flat_map (at_cycle (x ∷ slots)) (range_with_len a n) ≡ flat_map (at_cycle slots) (range_with_len a n)
skip_first x slots a n lt = range-agree (at_cycle (x ∷ slots)) (at_cycle slots) a n (λ c low high. ap (λ (b : Bool). cond b (x ∷ at_cycle slots c) (at_cycle slots c)) (ne_eqb x.cycle c (λ e. omega arith)))

-- rising slots of so many cycles are those of each cycle, one cycle after the other
abbrev ByCycle : (n a : ℕ) → Type 0
ByCycle n a = (slots : List Slot) → AllPairs Rises slots → All (λ x. a ≤ x.cycle) slots → All (λ x. x.cycle < a + n) slots → flat_map (at_cycle slots) (range_with_len a n) ≡ slots

by_cycle : (n a : ℕ) (slots : List Slot) → AllPairs Rises slots → All (λ x. a ≤ x.cycle) slots → All (λ x. x.cycle < a + n) slots → flat_map (at_cycle slots) (range_with_len a n) ≡ slots
by_cycle zero a [] rising low high = refl
by_cycle zero a (x ∷ slots) rising low high = absurd (let l = All-head (λ x. a ≤ x.cycle) x slots low in let h = All-head (λ x. x.cycle < a + 0) x slots high in omega arith)
by_cycle (suc n) a slots rising low high = here slots rising low high (λ others up below above. by_cycle n (a + 1) others up below above)
  where
    later : (x : Slot) (others : List Slot) → a < x.cycle → All (Rises x) others → All (λ y. a + 1 ≤ y.cycle) (x ∷ others)
    later x others lt all = All-cons (λ y. a + 1 ≤ y.cycle) x others (omega arith) (All-weaker (Rises x) (λ y. a + 1 ≤ y.cycle) (λ y le. omega arith) others all)

    here : (others : List Slot) → AllPairs Rises others → All (λ x. a ≤ x.cycle) others → All (λ x. x.cycle < a + suc n) others → ByCycle n (a + 1) → at_cycle others a ++ flat_map (at_cycle others) (range_with_len (a + 1) n) ≡ others
    here [] up below above rest = rest [] up (All-nil (λ x. a + 1 ≤ x.cycle)) (All-nil (λ x. x.cycle < (a + 1) + n))
    here (x ∷ others) up below above rest = ⊎_elim
        (λ (e : x.cycle ≡ a).
        ap (λ (b : Bool). cond b (x ∷ at_cycle others a) (at_cycle others a) ++ flat_map (at_cycle (x ∷ others)) (range_with_len (a + 1) n)) (eq-eqb x.cycle a e)
        ∙ ap (λ (ys : List Slot). x ∷ ys) (
        ap (λ (ys : List Slot). at_cycle others a ++ ys) (skip_first x others (a + 1) n (omega (arith, e)))
        ∙ here others (AllPairs-tail Rises x others up) (All-tail (λ x. a ≤ x.cycle) x others below) (All-tail (λ x. x.cycle < a + suc n) x others above) rest))
        (λ (ne : x.cycle ≡ a → ⊥).
        let lt : a < x.cycle = more x.cycle (All-head (λ x. a ≤ x.cycle) x others below) ne in
        let all = later x others lt (AllPairs-head Rises x others up) in
        ap (λ (ys : List Slot). ys ++ flat_map (at_cycle (x ∷ others)) (range_with_len (a + 1) n)) (filter_none (λ y. y.cycle == a) (x ∷ others) (All-weaker (λ y. a + 1 ≤ y.cycle) (λ y. (y.cycle == a) ≡ false) (λ y h. ne_eqb y.cycle a (λ e. omega arith)) (x ∷ others) all))
        ∙ rest (x ∷ others) up all (All-weaker (λ x. x.cycle < a + suc n) (λ x. x.cycle < (a + 1) + n) (λ y h. omega arith) (x ∷ others) above))
        (cases_eq x.cycle a)
      where
        more : (c : ℕ) → a ≤ c → (c ≡ a → ⊥) → a < c
        more c le ne = ⊎_elim (λ (lt : a < c). lt) (λ (ge : c ≤ a). absurd (ne (omega arith))) (cases_lt a c)

module _ (size interval : ℕ) (slots : List Slot) where
  -- the first turn issues the schedule's slots
  row_is : (c : ℕ) → map (slot_at c) (issued_at size interval slots 1 c) ≡ at_cycle slots c
  row_is c = ap (map (slot_at c)) (append-nil (map (λ x. 0 * size + x.place) (issued_by interval slots 0 c))) ∙ go slots
    where
      go : (xs : List Slot) → map (slot_at c) (map (λ x. 0 * size + x.place) (filter (λ x. 0 * interval + x.cycle == c) xs)) ≡ at_cycle xs c
      go [] = refl
      go (x ∷ xs) = ⊎_elim
          (λ (e : x.cycle ≡ c).
          let place : 0 * size + x.place ≡ x.place = omega arith in
          let same : slot_at c (0 * size + x.place) ≡ x = λ i. record { place = place i; cycle = sym e i } in
          ap (λ (b : Bool). map (slot_at c) (map (λ x. 0 * size + x.place) (cond b (x ∷ filter (λ x. 0 * interval + x.cycle == c) xs) (filter (λ x. 0 * interval + x.cycle == c) xs)))) (eq-eqb (0 * interval + x.cycle) c (omega (arith, e)))
          ∙ ((λ i. same i ∷ go xs i)
          ∙ sym (ap (λ (b : Bool). cond b (x ∷ at_cycle xs c) (at_cycle xs c)) (eq-eqb x.cycle c e))))
          (λ (ne : x.cycle ≡ c → ⊥).
          ap (λ (b : Bool). map (slot_at c) (map (λ x. 0 * size + x.place) (cond b (x ∷ filter (λ x. 0 * interval + x.cycle == c) xs) (filter (λ x. 0 * interval + x.cycle == c) xs)))) (ne_eqb (0 * interval + x.cycle) c (λ e. ne (omega (arith, e))))
          ∙ (go xs
          ∙ sym (ap (λ (b : Bool). cond b (x ∷ at_cycle xs c) (at_cycle xs c)) (ne_eqb x.cycle c ne))))
          (cases_eq x.cycle c)

  pub first_turn : (cycles : ℕ) → AllPairs Rises slots → All (λ x. x.cycle < cycles) slots → turns_before size interval slots 1 cycles ≡ slots
  first_turn cycles rising all =
      range-agree (λ c. map (slot_at c) (issued_at size interval slots 1 c)) (at_cycle slots) 0 cycles (λ c low high. row_is c)
      ∙ by_cycle cycles 0 slots rising (λ i d lt. omega arith) (All-weaker (λ x. x.cycle < cycles) (λ x. x.cycle < 0 + cycles) (λ x h. omega arith) slots all)

  -- no turns have no slots
  pub no_turns : (cycles : ℕ) → turns_before size interval slots 0 cycles ≡ []
  no_turns cycles = none 0 cycles
    where
      none : (a n : ℕ) → flat_map (λ c. map (slot_at c) (issued_at size interval slots 0 c)) (range_with_len a n) ≡ []
      none a zero = refl
      none a (suc n) = none (a + 1) n
