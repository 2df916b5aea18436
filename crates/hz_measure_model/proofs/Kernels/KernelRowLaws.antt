-- One interval of turns is the kernel, with the stages of the turns that there are.
use Rattle.std.proofs.Common.{◌≡◌, ℕ, zero, suc, ◌+◌, ◌*◌, ◌-◌, ◌<◌, ◌≤◌, ◌==◌, ◌&&◌, Bool, true, false, cond, List, [], ◌∷◌, ◌++◌, map, All, ⊎_elim, refl, sym, ap, ◌∙◌, append-nil, arith}
use Rattle.std.specs.Prelude.{nat_le, nat_lt}
use Rattle.std.specs.List.{filter, flat_map, range_with_len}
use Rattle.std.proofs.lemmas.Bool.{cases_lt, ne_eqb, and_parts, and_from, leb-true, le-leb, ltb-true, lt-ltb, false_from_ne_true}
use Rattle.std.proofs.lemmas.List.Elements.{All-weaker, filter-append, filter_agree}
use Rattle.hz_pipeline_model.specs.Tables.Machines.{Part, parts_walk}
use Rattle.hz_block_model.specs.Scheduling.Schedules.{Graph, Slot, class_at, present, advance_to, spelled}
use Rattle.hz_measure_model.specs.Kernels.Turns.{stages}
use Rattle.hz_measure_model.specs.Kernels.Kernels.{KernelSlot, kernel_at, kernel_row, kernel_slots, slots_of_stages, interval_trace}
use Rattle.hz_measure_model.proofs.Kernels.DepLaws.{more_copies}
use Rattle.hz_measure_model.proofs.Kernels.RangeLaws.{range-more, range-shift, range-agree, filter_none, map-flat_map, same_test}
use Rattle.hz_measure_model.proofs.Kernels.CycleLaws.{by_cycles, events_of, slot_at, slots_from, walk_by_cycles}
use Rattle.hz_measure_model.proofs.Kernels.PeriodLaws.{classes_in, cycles_agree}

-- ---- lists

same_bool : (a b : Bool) → (a ≡ true → b ≡ true) → (b ≡ true → a ≡ true) → a ≡ b
same_bool true true f g = refl
same_bool true false f g = sym (f refl)
same_bool false true f g = g refl
same_bool false false f g = refl

filter-flat_map : {X A : Type 0} (p : A → Bool) (f : X → List A) (xs : List X) → filter p (flat_map f xs) ≡ flat_map (λ x. filter p (f x)) xs
filter-flat_map p f [] = refl
filter-flat_map {X} {A} p f (x ∷ xs) = filter-append p (f x) (flat_map f xs) ∙ ap (λ (ys : List A). filter p (f x) ++ ys) (filter-flat_map p f xs)

flat_map-same : {X A : Type 0} (f g : X → List A) → ((x : X) → f x ≡ g x) → (xs : List X) → flat_map f xs ≡ flat_map g xs
flat_map-same f g same [] = refl
flat_map-same f g same (x ∷ xs) = λ i. same x i ++ flat_map-same f g same xs i

module _ {A : Type 0} (H : ℕ → List A) where
  pub range_none : (a n : ℕ) → ((k : ℕ) → a ≤ k → k < a + n → H k ≡ []) → flat_map H (range_with_len a n) ≡ []
  range_none a zero none = refl
  range_none a (suc n) none =
      ap (λ (xs : List A). xs ++ flat_map H (range_with_len (a + 1) n)) (none a (omega arith) (omega arith)) ∙ range_none (a + 1) n (λ k low high. none k (omega arith) (omega arith))

  -- what is empty outside of a range may be left out
  range_within : (a m rest all : ℕ) → a + (m + rest) ≡ all → ((k : ℕ) → k < a → H k ≡ []) → ((k : ℕ) → a + m ≤ k → H k ≡ []) → flat_map H (range_with_len 0 all) ≡ flat_map H (range_with_len a m)
  range_within a m rest all is before beyond =
      let begin : 0 + a ≡ a = omega arith in
      ap (λ (n : ℕ). flat_map H (range_with_len 0 n)) (sym is)
      ∙ (range-more H 0 a (m + rest)
      ∙ (ap (λ (xs : List A). xs ++ flat_map H (range_with_len (0 + a) (m + rest))) (range_none 0 a (λ k low high. before k (omega arith)))
      ∙ (ap (λ (n : ℕ). flat_map H (range_with_len n (m + rest))) begin
      ∙ (range-more H a m rest
      ∙ (ap (λ (xs : List A). flat_map H (range_with_len a m) ++ xs) (range_none (a + m) rest (λ k low high. beyond k low))
      ∙ append-nil (flat_map H (range_with_len a m)))))))

-- ---- the rows of a kernel

module _ (interval : ℕ) (slots : List Slot) (g : Graph) where
  -- the places of a stage at an offset
  abbrev places_at : ℕ → ℕ → List ℕ
  places_at offset stage = map (λ x. x.place) (filter (λ x. stage * interval + offset == x.cycle) slots)

  -- the places at an offset of the stages between two
  abbrev row_of_stages : (least most offset : ℕ) → List ℕ
  row_of_stages least most offset =
      flat_map (λ back. cond (nat_le least (stages interval slots - back) && nat_le (stages interval slots - back) most) (places_at offset (stages interval slots - back)) []) (range_with_len 0 (stages interval slots + 1))

  abbrev as_slot : KernelSlot → Slot
  as_slot x = record { place = x.place; cycle = x.offset }

  kept_at : (least most offset stage : ℕ) → map as_slot (filter (λ x. nat_le least x.stage && nat_le x.stage most) (kernel_at interval slots offset stage)) ≡ map (slot_at offset) (cond (nat_le least stage && nat_le stage most) (places_at offset stage) [])
  kept_at least most offset stage = go (nat_le least stage && nat_le stage most) refl (filter (λ x. stage * interval + offset == x.cycle) slots)
    where
      go : (b : Bool) → (nat_le least stage && nat_le stage most) ≡ b → (xs : List Slot)
          → map as_slot (filter (λ x. nat_le least x.stage && nat_le x.stage most) (map (λ x. record { offset = offset; stage = stage; place = x.place }) xs)) ≡ map (slot_at offset) (cond b (map (λ x. x.place) xs) [])
      go true e [] = refl
      go false e [] = refl
      go true e (x ∷ xs) =
          ap (λ (b : Bool). map as_slot (cond b (record { offset = offset; stage = stage; place = x.place } ∷ filter (λ x. nat_le least x.stage && nat_le x.stage most) (map (λ x. record { offset = offset; stage = stage; place = x.place }) xs)) (filter (λ x. nat_le least x.stage && nat_le x.stage most) (map (λ x. record { offset = offset; stage = stage; place = x.place }) xs)))) e
          ∙ ap (λ (ys : List Slot). slot_at offset x.place ∷ ys) (go true e xs)
      go false e (x ∷ xs) =
          ap (λ (b : Bool). map as_slot (cond b (record { offset = offset; stage = stage; place = x.place } ∷ filter (λ x. nat_le least x.stage && nat_le x.stage most) (map (λ x. record { offset = offset; stage = stage; place = x.place }) xs)) (filter (λ x. nat_le least x.stage && nat_le x.stage most) (map (λ x. record { offset = offset; stage = stage; place = x.place }) xs)))) e
          ∙ go false e xs

  kept_row : (least most offset : ℕ) → map as_slot (filter (λ x. nat_le least x.stage && nat_le x.stage most) (kernel_row interval slots offset)) ≡ map (slot_at offset) (row_of_stages least most offset)
  kept_row least most offset =
      ap (map as_slot) (filter-flat_map (λ x. nat_le least x.stage && nat_le x.stage most) (λ back. kernel_at interval slots offset (stages interval slots - back)) (range_with_len 0 (stages interval slots + 1)))
      ∙ (map-flat_map as_slot (λ back. filter (λ x. nat_le least x.stage && nat_le x.stage most) (kernel_at interval slots offset (stages interval slots - back))) (range_with_len 0 (stages interval slots + 1))
      ∙ (flat_map-same _ _ (λ back. kept_at least most offset (stages interval slots - back)) (range_with_len 0 (stages interval slots + 1))
      ∙ sym (map-flat_map (slot_at offset) (λ back. cond (nat_le least (stages interval slots - back) && nat_le (stages interval slots - back) most) (places_at offset (stages interval slots - back)) []) (range_with_len 0 (stages interval slots + 1)))))

  kept_slots : (least most : ℕ) → slots_of_stages least most (kernel_slots interval slots) ≡ slots_from (row_of_stages least most) 0 interval
  kept_slots least most =
      ap (map as_slot) (filter-flat_map (λ x. nat_le least x.stage && nat_le x.stage most) (kernel_row interval slots) (range_with_len 0 interval))
      ∙ (map-flat_map as_slot (λ offset. filter (λ x. nat_le least x.stage && nat_le x.stage most) (kernel_row interval slots offset)) (range_with_len 0 interval)
      ∙ flat_map-same _ _ (λ offset. kept_row least most offset) (range_with_len 0 interval))

  -- ---- the rows of turns

  module _ (all : All (λ x. x.cycle ≤ present 0 slots) slots) (far : present 0 slots < (stages interval slots + 1) * interval) (n k : ℕ) where
    -- the classes of a stage at an offset
    abbrev classes_at : ℕ → ℕ → List ℕ
    classes_at offset stage = map (λ x. class_at g x.place) (filter (λ x. stage * interval + offset == x.cycle) slots)

    no_stage : (offset stage : ℕ) → stages interval slots < stage → classes_at offset stage ≡ []
    no_stage offset stage lt =
        let more = more_copies (stages interval slots + 1) stage interval (omega arith) in
        ap (map (λ x. class_at g x.place)) (filter_none (λ x. stage * interval + offset == x.cycle) slots
        (All-weaker (λ x. x.cycle ≤ present 0 slots) (λ x. (stage * interval + offset == x.cycle) ≡ false) (λ x le. ne_eqb (stage * interval + offset) x.cycle (λ e. omega (arith, e, more))) slots all))

    -- a common number of turns and of stages
    abbrev inside : ℕ → Bool
    inside i = (nat_le k i && nat_le (stages interval slots) i) && (nat_lt i (stages interval slots + n) && nat_le i (stages interval slots + k))

    abbrev H : ℕ → ℕ → List ℕ
    H offset i = cond (inside i) (classes_at offset ((stages interval slots + k) - i)) []

    record Inside (i : ℕ) : Type 0 where
      turn : k ≤ i
      stage : stages interval slots ≤ i
      count : i < stages interval slots + n
      last : i ≤ stages interval slots + k

    inside_is : (i : ℕ) → inside i ≡ true → Inside i
    inside_is i e =
        let (low, high) = and_parts (nat_le k i && nat_le (stages interval slots) i) (nat_lt i (stages interval slots + n) && nat_le i (stages interval slots + k)) e in
        let (a, b) = and_parts (nat_le k i) (nat_le (stages interval slots) i) low in
        let (c, d) = and_parts (nat_lt i (stages interval slots + n)) (nat_le i (stages interval slots + k)) high in
        record { turn = leb-true k i a; stage = leb-true (stages interval slots) i b; count = ltb-true i (stages interval slots + n) c; last = leb-true i (stages interval slots + k) d }

    is_inside : (i : ℕ) → Inside i → inside i ≡ true
    is_inside i x = and_from _ _ (and_from _ _ (le-leb k i x.turn) (le-leb (stages interval slots) i x.stage)) (and_from _ _ (lt-ltb i (stages interval slots + n) x.count) (le-leb i (stages interval slots + k) x.last))

    outside : (offset i : ℕ) → (Inside i → ⊥) → H offset i ≡ []
    outside offset i never = ap (λ (b : Bool). cond b (classes_at offset ((stages interval slots + k) - i)) []) (false_from_ne_true (inside i) (λ e. never (inside_is i e)))

    -- the stages of the kernel
    by_stage : (offset back : ℕ) → back < stages interval slots + 1
        → map (class_at g) (cond (nat_le ((k + 1) - n) (stages interval slots - back) && nat_le (stages interval slots - back) k) (places_at offset (stages interval slots - back)) []) ≡ H offset (back + k)
    by_stage offset back low =
        ap (λ (b : Bool). map (class_at g) (cond b (places_at offset (stages interval slots - back)) [])) same
        ∙ (go (inside (back + k)) ∙ ap (λ (stage : ℕ). cond (inside (back + k)) (classes_at offset stage) []) stage)
      where
        stage : stages interval slots - back ≡ (stages interval slots + k) - (back + k)
        stage = omega (arith, low)

        same : (nat_le ((k + 1) - n) (stages interval slots - back) && nat_le (stages interval slots - back) k) ≡ inside (back + k)
        same = same_bool _ _
            (λ e. let (a, b) = and_parts (nat_le ((k + 1) - n) (stages interval slots - back)) (nat_le (stages interval slots - back) k) e in
            let one = leb-true ((k + 1) - n) (stages interval slots - back) a in
            let two = leb-true (stages interval slots - back) k b in
            is_inside (back + k) (record { turn = omega arith; stage = omega (arith, two, low); count = omega (arith, one, low); last = omega (arith, low) }))
            (λ e. let x = inside_is (back + k) e in let count = x.count in let from = x.stage in
            and_from _ _ (le-leb ((k + 1) - n) (stages interval slots - back) (omega (arith, count, low))) (le-leb (stages interval slots - back) k (omega (arith, from, low))))

        go : (b : Bool) → map (class_at g) (cond b (places_at offset (stages interval slots - back)) []) ≡ cond b (classes_at offset (stages interval slots - back)) []
        go true = twice (filter (λ x. (stages interval slots - back) * interval + offset == x.cycle) slots)
          where
            twice : (xs : List Slot) → map (class_at g) (map (λ x. x.place) xs) ≡ map (λ x. class_at g x.place) xs
            twice [] = refl
            twice (x ∷ xs) = ap (λ (cs : List ℕ). class_at g x.place ∷ cs) (twice xs)
        go false = refl

    -- the turns
    by_turn : (offset turn : ℕ) → offset < interval → turn < n → map (λ x. class_at g x.place) (filter (λ x. turn * interval + x.cycle == offset + k * interval) slots) ≡ H offset (turn + stages interval slots)
    by_turn offset turn low few = ⊎_elim
        (λ (later : k < turn).
        let more = more_copies (k + 1) turn interval (omega arith) in
        ap (map (λ x. class_at g x.place)) (filter_none (λ x. turn * interval + x.cycle == offset + k * interval) slots
        (All-weaker (λ x. x.cycle ≤ present 0 slots) (λ x. (turn * interval + x.cycle == offset + k * interval) ≡ false) (λ x le. ne_eqb (turn * interval + x.cycle) (offset + k * interval) (λ e. omega (arith, e, more, low))) slots all))
        ∙ sym (outside offset (turn + stages interval slots) (λ x. let last = x.last in omega (arith, last, later))))
        (λ (le : turn ≤ k). ⊎_elim
        (λ (much : stages interval slots < k - turn).
        stage_of le ∙ (no_stage offset (k - turn) much ∙ sym (outside offset (turn + stages interval slots) (λ x. let from = x.turn in omega (arith, from, much)))))
        (λ (close : k - turn ≤ stages interval slots).
        stage_of le
        ∙ (ap (classes_at offset) (same_stage le)
        ∙ sym (ap (λ (b : Bool). cond b (classes_at offset ((stages interval slots + k) - (turn + stages interval slots))) [])
        (is_inside (turn + stages interval slots) (record { turn = omega (arith, close); stage = omega arith; count = omega (arith, few); last = omega (arith, le) })))))
        (cases_lt (stages interval slots) (k - turn)))
        (cases_lt k turn)
      where
        same_stage : turn ≤ k → k - turn ≡ (stages interval slots + k) - (turn + stages interval slots)
        same_stage le = omega (arith, le)

        stage_of : turn ≤ k → map (λ x. class_at g x.place) (filter (λ x. turn * interval + x.cycle == offset + k * interval) slots) ≡ classes_at offset (k - turn)
        stage_of le =
            let parts : k * interval ≡ turn * interval + (k - turn) * interval = spread k turn le in
            ap (map (λ x. class_at g x.place)) (filter_agree (λ x. turn * interval + x.cycle == offset + k * interval) (λ x. (k - turn) * interval + offset == x.cycle)
            (λ x. same_test (turn * interval + x.cycle) (offset + k * interval) ((k - turn) * interval + offset) x.cycle (λ e. omega (arith, e, parts)) (λ e. omega (arith, e, parts))) slots)
          where
            spread : (a b : ℕ) → b ≤ a → a * interval ≡ b * interval + (a - b) * interval
            spread a b le = let whole : a ≡ b + (a - b) = omega (arith, le) in ap (λ (m : ℕ). m * interval) whole ∙ (let dist : (b + (a - b)) * interval ≡ b * interval + (a - b) * interval = omega arith in dist)

    rows_same : (offset : ℕ) → offset < interval → map (class_at g) (row_of_stages ((k + 1) - n) k offset) ≡ classes_in interval slots g n (offset + k * interval)
    rows_same offset low =
        map-flat_map (class_at g) (λ back. cond (nat_le ((k + 1) - n) (stages interval slots - back) && nat_le (stages interval slots - back) k) (places_at offset (stages interval slots - back)) []) (range_with_len 0 (stages interval slots + 1))
        ∙ (range-agree _ (λ back. H offset (back + k)) 0 (stages interval slots + 1) (λ back zero_low high. by_stage offset back (omega (arith, high)))
        ∙ (sym (range-shift (H offset) 0 k (stages interval slots + 1))
        ∙ (ap (λ (a : ℕ). flat_map (H offset) (range_with_len a (stages interval slots + 1))) (let same : 0 + k ≡ k = omega arith in same)
        ∙ (sym (range_within (H offset) k (stages interval slots + 1) n (k + ((stages interval slots + 1) + n)) refl
        (λ i lt. outside offset i (λ x. let h = x.turn in omega arith))
        (λ i le. outside offset i (λ x. let h = x.last in omega arith)))
        ∙ (range_within (H offset) (stages interval slots) n (k + 1) (k + ((stages interval slots + 1) + n)) (omega arith)
        (λ i lt. outside offset i (λ x. let h = x.stage in omega arith))
        (λ i le. outside offset i (λ x. let h = x.count in omega arith))
        ∙ (ap (λ (a : ℕ). flat_map (H offset) (range_with_len a n)) (let same : stages interval slots ≡ 0 + stages interval slots = omega arith in same)
        ∙ (range-shift (H offset) 0 (stages interval slots) n
        ∙ sym (range-agree (λ turn. map (λ x. class_at g x.place) (filter (λ x. turn * interval + x.cycle == offset + k * interval) slots)) (λ turn. H offset (turn + stages interval slots)) 0 n (λ turn zero_low high. by_turn offset turn low (omega (arith, high)))))))))))

    -- one interval of so many turns, from the start of a turn on, is walked as the kernel with the stages of the turns that there are
    pub interval_walked : (parts : List Part) (states : List ℕ) → parts_walk parts states (interval_trace g interval ((k + 1) - n) k (kernel_slots interval slots)) ≡ parts_walk parts states (by_cycles (classes_in interval slots g n) (k * interval) interval)
    interval_walked parts states =
        ap (λ (xs : List Slot). parts_walk parts states (spelled g 0 xs ++ advance_to (present 0 xs) interval)) (kept_slots ((k + 1) - n) k)
        ∙ (walk_by_cycles parts states g (row_of_stages ((k + 1) - n) k) interval
        ∙ ap (parts_walk parts states) (
        cycles_agree interval slots g (λ c. map (class_at g) (row_of_stages ((k + 1) - n) k c)) (λ c. classes_in interval slots g n (c + k * interval)) 0 interval (λ c low high. rows_same c (omega (arith, high)))
        ∙ (sym (range-shift (λ c. events_of (classes_in interval slots g n c)) 0 (k * interval) interval)
        ∙ ap (λ (a : ℕ). by_cycles (classes_in interval slots g n) a interval) (let same : 0 + k * interval ≡ k * interval = omega arith in same))))
