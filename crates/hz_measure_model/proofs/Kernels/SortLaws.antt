-- A list that is sorted stably by two numbers is its rows, one after the other; so the kernel's slots are the schedule's, sorted.
use Rattle.std.proofs.Common.{◌≡◌, ℕ, zero, suc, ◌+◌, ◌*◌, ◌/◌, ◌%◌, ◌-◌, ◌<◌, ◌≤◌, ◌==◌, ◌&&◌, ◌⊎◌, Bool, true, false, cond, List, [], ◌∷◌, ◌++◌, map, get_or, All, ⊎_elim, refl, sym, ap, ◌∙◌, arith}
use Rattle.std.specs.List.{filter, flat_map, range_with_len, AllPairs}
use Rattle.std.proofs.lemmas.Bool.{cases_lt, cases_eq, eqb-true, eq-eqb, ne_eqb, and_parts, and_from, false_from_ne_true}
use Rattle.std.proofs.lemmas.Nat.{div-mul-add, mod-mul-add, div-add-mod'}
use Rattle.std.proofs.lemmas.List.Elements.{All-nil, All-cons, All-head, All-tail, All-weaker, All-filter, filter_passes}
use Rattle.std.proofs.lemmas.List.Kept.{AllPairs-filter}
use Rattle.hz_base_model.proofs.Ascending.{AllPairs-head, AllPairs-tail}
use Rattle.hz_block_model.specs.Scheduling.Schedules.{Slot}
use Rattle.hz_measure_model.specs.Kernels.Turns.{stages}
use Rattle.hz_measure_model.specs.Kernels.Kernels.{KernelSlot, kernel_of, kernel_slots}
use Rattle.hz_measure_model.proofs.Kernels.RangeLaws.{range-agree, filter_none}

module _ {X : Type 0} where
  module _ (key : X → ℕ) where
    abbrev Rising : X → X → Type 0
    Rising x y = key x ≤ key y

    abbrev with_key : List X → ℕ → List X
    with_key xs c = filter (λ x. key x == c) xs

    skip_first : (x : X) (xs : List X) (a n : ℕ) → key x < a → flat_map (with_key (x ∷ xs)) (range_with_len a n) ≡ flat_map (with_key xs) (range_with_len a n)
    skip_first x xs a n lt = range-agree (with_key (x ∷ xs)) (with_key xs) a n (λ c low high. ap (λ (b : Bool). cond b (x ∷ with_key xs c) (with_key xs c)) (ne_eqb (key x) c (λ e. omega arith)))

    abbrev ByKey : (n a : ℕ) → Type 0
    ByKey n a = (xs : List X) → AllPairs Rising xs → All (λ x. a ≤ key x) xs → All (λ x. key x < a + n) xs → flat_map (with_key xs) (range_with_len a n) ≡ xs

    -- a list that rises by a number is what has each number, one after the other
    pub by_key : (n a : ℕ) (xs : List X) → AllPairs Rising xs → All (λ x. a ≤ key x) xs → All (λ x. key x < a + n) xs → flat_map (with_key xs) (range_with_len a n) ≡ xs
    by_key zero a [] rising low high = refl
    by_key zero a (x ∷ xs) rising low high = absurd (let l = All-head (λ x. a ≤ key x) x xs low in let h = All-head (λ x. key x < a + 0) x xs high in omega arith)
    by_key (suc n) a xs rising low high = here xs rising low high (λ others up below above. by_key n (a + 1) others up below above)
      where
        later : (x : X) (others : List X) → a < key x → All (Rising x) others → All (λ y. a + 1 ≤ key y) (x ∷ others)
        later x others lt all = All-cons (λ y. a + 1 ≤ key y) x others (omega arith) (All-weaker (Rising x) (λ y. a + 1 ≤ key y) (λ y le. omega arith) others all)

        here : (others : List X) → AllPairs Rising others → All (λ x. a ≤ key x) others → All (λ x. key x < a + suc n) others → ByKey n (a + 1) → with_key others a ++ flat_map (with_key others) (range_with_len (a + 1) n) ≡ others
        here [] up below above rest = rest [] up (All-nil (λ x. a + 1 ≤ key x)) (All-nil (λ x. key x < (a + 1) + n))
        here (x ∷ others) up below above rest = ⊎_elim
            (λ (e : key x ≡ a).
            ap (λ (b : Bool). cond b (x ∷ with_key others a) (with_key others a) ++ flat_map (with_key (x ∷ others)) (range_with_len (a + 1) n)) (eq-eqb (key x) a e)
            ∙ ap (λ (ys : List X). x ∷ ys) (
            ap (λ (ys : List X). with_key others a ++ ys) (skip_first x others (a + 1) n (omega (arith, e)))
            ∙ here others (AllPairs-tail Rising x others up) (All-tail (λ x. a ≤ key x) x others below) (All-tail (λ x. key x < a + suc n) x others above) rest))
            (λ (ne : key x ≡ a → ⊥).
            let lt : a < key x = more (key x) (All-head (λ x. a ≤ key x) x others below) ne in
            let all = later x others lt (AllPairs-head Rising x others up) in
            ap (λ (ys : List X). ys ++ flat_map (with_key (x ∷ others)) (range_with_len (a + 1) n)) (filter_none (λ y. key y == a) (x ∷ others) (All-weaker (λ y. a + 1 ≤ key y) (λ y. (key y == a) ≡ false) (λ y h. ne_eqb (key y) a (λ e. omega arith)) (x ∷ others) all))
            ∙ rest (x ∷ others) up all (All-weaker (λ x. key x < a + suc n) (λ x. key x < (a + 1) + n) (λ y h. omega arith) (x ∷ others) above))
            (cases_eq (key x) a)
          where
            more : (c : ℕ) → a ≤ c → (c ≡ a → ⊥) → a < c
            more c le ne = ⊎_elim (λ (lt : a < c). lt) (λ (ge : c ≤ a). absurd (ne (omega arith))) (cases_lt a c)

  filter_both : (p q : X → Bool) (xs : List X) → filter q (filter p xs) ≡ filter (λ x. p x && q x) xs
  filter_both p q [] = refl
  filter_both p q (x ∷ xs) = go (p x) (filter_both p q xs)
    where
      go : (b : Bool) → filter q (filter p xs) ≡ filter (λ x. p x && q x) xs → filter q (cond b (x ∷ filter p xs) (filter p xs)) ≡ cond (b && q x) (x ∷ filter (λ x. p x && q x) xs) (filter (λ x. p x && q x) xs)
      go true rest = ap (λ (ys : List X). cond (q x) (x ∷ ys) ys) rest
      go false rest = rest

  -- sorted by a first number, and by a second where the first is one
  abbrev pub GoesFirst : (first second : X → ℕ) → X → X → Type 0
  GoesFirst first second a b = (first a < first b) ⊎ ((first a ≡ first b) × (second a ≤ second b))

  pub rows_of_sorted : (first second : X → ℕ) (n m : ℕ) (xs ys : List X) → AllPairs (GoesFirst first second) ys → All (λ x. first x < n) ys → All (λ x. second x < m) ys
      → ((i j : ℕ) → filter (λ x. first x == i && second x == j) ys ≡ filter (λ x. first x == i && second x == j) xs)
      → ys ≡ flat_map (λ i. flat_map (λ j. filter (λ x. first x == i && second x == j) xs) (range_with_len 0 m)) (range_with_len 0 n)
  rows_of_sorted first second n m xs ys sorted low small stable =
      sym (by_key first n 0 ys rising (λ i d lt. omega arith) (All-weaker (λ x. first x < n) (λ x. first x < 0 + n) (λ x h. omega arith) ys low))
      ∙ range-agree (λ i. filter (λ x. first x == i) ys) (λ i. flat_map (λ j. filter (λ x. first x == i && second x == j) xs) (range_with_len 0 m)) 0 n (λ i zero_low high. row i)
    where
      rising : AllPairs (λ a b. first a ≤ first b) ys
      rising i j d lt inside = ⊎_elim
          (λ (less : first (get_or ys i d) < first (get_or ys j d)). omega arith)
          (λ (same : (first (get_or ys i d) ≡ first (get_or ys j d)) × (second (get_or ys i d) ≤ second (get_or ys j d))). omega (arith, same.0))
          (sorted i j d lt inside)

      row : (i : ℕ) → filter (λ x. first x == i) ys ≡ flat_map (λ j. filter (λ x. first x == i && second x == j) xs) (range_with_len 0 m)
      row i =
          sym (by_key second m 0 (filter (λ x. first x == i) ys) (seconds (filter (λ x. first x == i) ys) (AllPairs-filter (GoesFirst first second) (λ x. first x == i) ys sorted) (passing ys)) (λ k d lt. omega arith)
          (All-filter (λ x. first x == i) (λ x. second x < 0 + m) ys (All-weaker (λ x. second x < m) (λ x. second x < 0 + m) (λ x h. omega arith) ys small)))
          ∙ range-agree (λ j. filter (λ x. second x == j) (filter (λ x. first x == i) ys)) (λ j. filter (λ x. first x == i && second x == j) xs) 0 m
          (λ j zero_low high. filter_both (λ x. first x == i) (λ x. second x == j) ys ∙ stable i j)
        where
          passing : (zs : List X) → All (λ x. first x ≡ i) (filter (λ x. first x == i) zs)
          passing zs = All-weaker (λ x. (first x == i) ≡ true) (λ x. first x ≡ i) (λ x e. eqb-true (first x) i e) (filter (λ x. first x == i) zs) (filter_passes (λ x. first x == i) zs)

          seconds : (zs : List X) → AllPairs (GoesFirst first second) zs → All (λ x. first x ≡ i) zs → AllPairs (λ a b. second a ≤ second b) zs
          seconds zs pairs all k l d lt inside = ⊎_elim
              (λ (less : first (get_or zs k d) < first (get_or zs l d)). let a = all k d (omega arith) in let b = all l d inside in absurd (omega (arith, a, b)))
              (λ (same : (first (get_or zs k d) ≡ first (get_or zs l d)) × (second (get_or zs k d) ≤ second (get_or zs l d))). same.1)
              (pairs k l d lt inside)

-- ---- the slots of a kernel

module _ (interval : ℕ) (some : 0 < interval) (slots : List Slot) (all : All (λ x. x.cycle / interval ≤ stages interval slots) slots) where
  filtered : (offset back : ℕ) → offset < interval → back ≤ stages interval slots → (xs : List Slot) → All (λ x. x.cycle / interval ≤ stages interval slots) xs
      → filter (λ x. x.offset == offset && (stages interval slots - x.stage) == back) (map (kernel_of interval) xs)
      ≡ map (λ x. record { offset = offset; stage = stages interval slots - back; place = x.place }) (filter (λ x. (stages interval slots - back) * interval + offset == x.cycle) xs)
  filtered offset back low high [] each = refl
  filtered offset back low high (x ∷ xs) each = ⊎_elim
      (λ (e : (stages interval slots - back) * interval + offset ≡ x.cycle).
      let part : x.cycle % interval ≡ offset = ap (λ (n : ℕ). n % interval) (sym e) ∙ mod-mul-add (stages interval slots - back) interval offset low in
      let stage : x.cycle / interval ≡ stages interval slots - back = ap (λ (n : ℕ). n / interval) (sym e) ∙ div-mul-add (stages interval slots - back) interval offset low in
      let passes = and_from (x.cycle % interval == offset) ((stages interval slots - x.cycle / interval) == back) (eq-eqb (x.cycle % interval) offset part) (eq-eqb (stages interval slots - x.cycle / interval) back (omega (arith, stage, high))) in
      ap (λ (b : Bool). cond b (kernel_of interval x ∷ filter (λ x. x.offset == offset && (stages interval slots - x.stage) == back) (map (kernel_of interval) xs)) (filter (λ x. x.offset == offset && (stages interval slots - x.stage) == back) (map (kernel_of interval) xs))) passes
      ∙ ((λ i. record { offset = part i; stage = stage i; place = x.place } ∷ filtered offset back low high xs (All-tail (λ x. x.cycle / interval ≤ stages interval slots) x xs each) i)
      ∙ sym (ap (λ (b : Bool). map (λ x. record { offset = offset; stage = stages interval slots - back; place = x.place }) (cond b (x ∷ filter (λ x. (stages interval slots - back) * interval + offset == x.cycle) xs) (filter (λ x. (stages interval slots - back) * interval + offset == x.cycle) xs))) (eq-eqb ((stages interval slots - back) * interval + offset) x.cycle e))))
      (λ (ne : (stages interval slots - back) * interval + offset ≡ x.cycle → ⊥).
      let fails = false_from_ne_true (x.cycle % interval == offset && (stages interval slots - x.cycle / interval) == back) (λ e. ne (back_to x (All-head (λ x. x.cycle / interval ≤ stages interval slots) x xs each) e)) in
      ap (λ (b : Bool). cond b (kernel_of interval x ∷ filter (λ x. x.offset == offset && (stages interval slots - x.stage) == back) (map (kernel_of interval) xs)) (filter (λ x. x.offset == offset && (stages interval slots - x.stage) == back) (map (kernel_of interval) xs))) fails
      ∙ (filtered offset back low high xs (All-tail (λ x. x.cycle / interval ≤ stages interval slots) x xs each)
      ∙ sym (ap (λ (b : Bool). map (λ x. record { offset = offset; stage = stages interval slots - back; place = x.place }) (cond b (x ∷ filter (λ x. (stages interval slots - back) * interval + offset == x.cycle) xs) (filter (λ x. (stages interval slots - back) * interval + offset == x.cycle) xs))) (ne_eqb ((stages interval slots - back) * interval + offset) x.cycle ne))))
      (cases_eq ((stages interval slots - back) * interval + offset) x.cycle)
    where
      back_to : (y : Slot) → y.cycle / interval ≤ stages interval slots → (y.cycle % interval == offset && (stages interval slots - y.cycle / interval) == back) ≡ true → (stages interval slots - back) * interval + offset ≡ y.cycle
      back_to y le e =
          let (a, b) = and_parts (y.cycle % interval == offset) ((stages interval slots - y.cycle / interval) == back) e in
          let part = eqb-true (y.cycle % interval) offset a in
          let stage = eqb-true (stages interval slots - y.cycle / interval) back b in
          let whole = div-add-mod' y.cycle interval in
          let same : stages interval slots - back ≡ y.cycle / interval = omega (arith, stage, le) in
          let product : (stages interval slots - back) * interval ≡ y.cycle / interval * interval = ap (λ (n : ℕ). n * interval) same in
          omega (arith, product, part, whole)

  -- the schedule's slots as a kernel's, sorted stably by offset and then by greater stage, are the slots of the kernel
  pub sorted_kernel : (ys : List KernelSlot) → AllPairs (GoesFirst (λ x. x.offset) (λ x. stages interval slots - x.stage)) ys → All (λ x. x.offset < interval) ys
      → ((i j : ℕ) → filter (λ x. x.offset == i && (stages interval slots - x.stage) == j) ys ≡ filter (λ x. x.offset == i && (stages interval slots - x.stage) == j) (map (kernel_of interval) slots))
      → ys ≡ kernel_slots interval slots
  sorted_kernel ys sorted low stable =
      rows_of_sorted (λ x. x.offset) (λ x. stages interval slots - x.stage) interval (stages interval slots + 1) (map (kernel_of interval) slots) ys sorted low (λ i d lt. omega arith) stable
      ∙ range-agree _ _ 0 interval (λ i zero_low high. range-agree _ _ 0 (stages interval slots + 1) (λ j also few. filtered i j (omega (arith, high)) (omega (arith, few)) slots all))
