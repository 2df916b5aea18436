-- Slots that are sorted by their ranks are those of the kernel.
use Rattle.std.proofs.Common.{◌≡◌, ℕ, ◌+◌, ◌*◌, ◌/◌, ◌%◌, ◌-◌, ◌<◌, ◌≤◌, ◌==◌, ◌&&◌, ◌⊎◌, inl, inr, Bool, true, false, cond, List, [], ◌∷◌, map, get_or, All, ⊎_elim, refl, sym, ap, ◌∙◌, subst, arith}
use Rattle.std.specs.Prelude.{not, ◌^◌, nat_lt}
use Rattle.std.specs.List.{filter, AllPairs}
use Rattle.std.specs.List.Sorted.{IsPermutation, IsNonDecreasingBy, ties, IsStableByKey}
use Rattle.std.specs.Ordering.{is_lt, nat_cmp}
use Rattle.std.specs.declared.cmp.Ordering.TheVariants.{Less, Equal, Greater}
use Rattle.std.proofs.Math.Nat.{mul_comm}
use Rattle.std.proofs.lemmas.Bool.{cases_lt, eqb-true, eq-eqb, ne_eqb, and_parts, and_from, le-ltb, ltb-false}
use Rattle.std.proofs.lemmas.Nat.{mod_below, div_below, div-add-mod'}
use Rattle.std.proofs.lemmas.List.{length-map, get_or-map}
use Rattle.std.proofs.lemmas.List.Elements.{All-nil, All-cons, All-head, All-tail, All-weaker, All-map}
use Rattle.std.proofs.lemmas.List.Sorted.{All-permutation}
use Rattle.hz_block_model.specs.Scheduling.Schedules as model
use Rattle.hz_block_model.specs.Scheduling.Schedules.{present}
use Rattle.hz_measure_model.specs.Kernels.Turns.{stages}
use Rattle.hz_measure_model.specs.Kernels.Kernels as kernels
use Rattle.hz_measure_model.specs.Kernels.Kernels.{kernel_of, kernel_slots}
use Rattle.hz_measure_model.proofs.Kernels.DepLaws.{more_copies}
use Rattle.hz_measure_model.proofs.Kernels.RangeLaws.{filter_none}
use Rattle.hz_measure_model.proofs.Kernels.SortLaws.{GoesFirst, sorted_kernel}
use Rattle.hz_sched.specs.declared.parts.Slot.{Slot}
use Rattle.hz_sched.specs.Shape.{slot_of, slots_of}
use Rattle.hz_modulo.specs.declared.parts.KernelSlot.{KernelSlot}
use Rattle.hz_modulo.specs.Walking.{kernel_slot_of}
use Rattle.hz_modulo.specs.Ranks.{rank_of}

-- ---- what is said of slots is said of those of the kernel

module _ (interval : ℕ) (P : kernels.KernelSlot → Type 0) where
  pub kept_by_map : (made : List KernelSlot) (slots : List model.Slot) → map kernel_slot_of made ≡ map (kernel_of interval) slots → All (λ x. P (kernel_of interval x)) slots → All (λ x. P (kernel_slot_of x)) made
  kept_by_map [] slots e all = All-nil (λ x. P (kernel_slot_of x))
  kept_by_map (x ∷ made) [] e all = absurd (cc)
  kept_by_map (x ∷ made) (s ∷ slots) e all =
      let here : kernel_of interval s ≡ kernel_slot_of x = cc in
      let rest : map kernel_slot_of made ≡ map (kernel_of interval) slots = cc in
      All-cons (λ x. P (kernel_slot_of x)) x made (subst P here (All-head (λ x. P (kernel_of interval x)) s slots all)) (kept_by_map made slots rest (All-tail (λ x. P (kernel_of interval x)) s slots all))

pub places_kept : (interval count : ℕ) (made ys : List KernelSlot) (slots : List Slot) → map kernel_slot_of made ≡ map (kernel_of interval) (slots_of slots) → IsPermutation made ys → All (λ x. x.place < count) slots → All (λ x. x.place < count) ys
places_kept interval count made ys slots e moved all =
    All-permutation (λ x. x.place < count) made ys moved (kept_by_map interval (λ x. x.place < count) made (slots_of slots) e (All-map (λ x. x.place < count) slot_of slots all))

-- ---- ranks

module _ (most : ℕ) where
  -- few stages, and no stage is greater than all
  abbrev Good : KernelSlot → Type 0
  Good x = (x.stage ≤ most) × (x.stage < 2 ^ 32)

  goes_first : (a b : KernelSlot) → Good a → Good b → rank_of a ≤ rank_of b → (a.offset < b.offset) ⊎ ((a.offset ≡ b.offset) × (most - a.stage ≤ most - b.stage))
  goes_first a b good also le = ⊎_elim
      (λ (lt : a.offset < b.offset). inl lt)
      (λ (ge : b.offset ≤ a.offset). ⊎_elim
      (λ (more : b.offset < a.offset). let h = good.1 in let k = also.1 in absurd (omega (arith, le, more, h, k)))
      (λ (no_more : a.offset ≤ b.offset). let h = good.1 in let k = also.1 in let m = good.0 in let n = also.0 in let same : a.offset ≡ b.offset = omega (arith, ge, no_more) in inr (same, omega (arith, le, same, h, k, m, n)))
      (cases_lt b.offset a.offset))
      (cases_lt a.offset b.offset)

  same_rank : (a b : KernelSlot) → Good a → Good b → rank_of a ≡ rank_of b → (a.offset ≡ b.offset) × (a.stage ≡ b.stage)
  same_rank a b good also e =
      let there = goes_first a b good also (omega (arith, e)) in
      let back = goes_first b a also good (omega (arith, e)) in
      let h = good.1 in let k = also.1 in
      ⊎_elim
      (λ (lt : a.offset < b.offset). ⊎_elim
      (λ (more : b.offset < a.offset). absurd (omega (arith, lt, more)))
      (λ (same : (b.offset ≡ a.offset) × (most - b.stage ≤ most - a.stage)). let is = same.0 in absurd (omega (arith, lt, is)))
      back)
      (λ (same : (a.offset ≡ b.offset) × (most - a.stage ≤ most - b.stage)). let is = same.0 in (is, omega (arith, is, e, h, k)))
      there

abbrev less : KernelSlot → KernelSlot → Bool
less x y = is_lt (nat_cmp (rank_of x) (rank_of y))

less_lt : (a b : ℕ) → is_lt (nat_cmp a b) ≡ nat_lt a b
less_lt a b = go (nat_lt a b) (a == b)
  where
    go : (lt same : Bool) → is_lt (cond lt Less (cond same Equal Greater)) ≡ lt
    go true same = refl
    go false true = refl
    go false false = refl

ties_same : (a b : KernelSlot) → ties less a b ≡ true → rank_of a ≡ rank_of b
ties_same a b e =
    let (one, other) = and_parts (not (less a b)) (not (less b a)) e in
    let le = ltb-false (rank_of a) (rank_of b) (sym (less_lt (rank_of a) (rank_of b)) ∙ not_true (less a b) one) in
    let ge = ltb-false (rank_of b) (rank_of a) (sym (less_lt (rank_of b) (rank_of a)) ∙ not_true (less b a) other) in
    omega (arith, le, ge)
  where
    not_true : (b : Bool) → not b ≡ true → b ≡ false
    not_true true e = absurd (cc)
    not_true false e = refl

same_ties : (a b : KernelSlot) → rank_of a ≡ rank_of b → ties less a b ≡ true
same_ties a b e = and_from (not (less a b)) (not (less b a))
    (ap not (less_lt (rank_of a) (rank_of b) ∙ le-ltb (rank_of a) (rank_of b) (omega (arith, e))))
    (ap not (less_lt (rank_of b) (rank_of a) ∙ le-ltb (rank_of b) (rank_of a) (omega (arith, e))))

-- ---- the sorted slots

same_bool : (a b : Bool) → (a ≡ true → b ≡ true) → (b ≡ true → a ≡ true) → a ≡ b
same_bool true true f g = refl
same_bool true false f g = sym (f refl)
same_bool false true f g = g refl
same_bool false false f g = refl

filter_where : {X : Type 0} (p q : X → Bool) (xs : List X) → All (λ x. p x ≡ q x) xs → filter p xs ≡ filter q xs
filter_where p q [] all = refl
filter_where {X} p q (x ∷ xs) all = λ i. cond (All-head (λ x. p x ≡ q x) x xs all i) (x ∷ filter_where p q xs (All-tail (λ x. p x ≡ q x) x xs all) i) (filter_where p q xs (All-tail (λ x. p x ≡ q x) x xs all) i)

filter_mapped : {X Y : Type 0} (f : X → Y) (p : Y → Bool) (xs : List X) → filter p (map f xs) ≡ map f (filter (λ x. p (f x)) xs)
filter_mapped f p [] = refl
filter_mapped {X} {Y} f p (x ∷ xs) = go (p (f x)) (filter_mapped f p xs)
  where
    go : (b : Bool) → filter p (map f xs) ≡ map f (filter (λ x. p (f x)) xs) → cond b (f x ∷ filter p (map f xs)) (filter p (map f xs)) ≡ map f (cond b (x ∷ filter (λ x. p (f x)) xs) (filter (λ x. p (f x)) xs))
    go true e = ap (λ (ys : List Y). f x ∷ ys) e
    go false e = e

module _ (interval : ℕ) (some : 0 < interval) (slots : List model.Slot) (rising : All (λ x. x.cycle ≤ present 0 slots) slots) (small : present 0 slots < 2 ^ 32)
    (made ys : List KernelSlot) (is : map kernel_slot_of made ≡ map (kernel_of interval) slots) (moved : IsPermutation made ys)
    (sorted : IsNonDecreasingBy rank_of ys) (stable : IsStableByKey rank_of nat_cmp made ys) where
  low_stage : (cycle : ℕ) → cycle ≤ present 0 slots → cycle / interval ≤ stages interval slots
  low_stage cycle le =
      let parts = div-add-mod' (present 0 slots) interval in
      let rest = mod_below (present 0 slots) interval some in
      let wide : (stages interval slots + 1) * interval ≡ stages interval slots * interval + interval = omega arith in
      let less = div_below cycle interval (stages interval slots + 1) some (omega (arith, le, parts, rest, wide)) in
      omega (arith, less)

  small_stages : stages interval slots < 2 ^ 32
  small_stages =
      let parts = div-add-mod' (present 0 slots) interval in
      let more = more_copies 1 interval (stages interval slots) some in
      let turned : interval * stages interval slots ≡ stages interval slots * interval = turn interval (stages interval slots) in
      omega (arith, parts, more, turned, small)
    where
      turn : (a b : ℕ) → a * b ≡ b * a
      turn a b = mul_comm a b

  all_stages : All (λ x. x.cycle / interval ≤ stages interval slots) slots
  all_stages = All-weaker (λ x. x.cycle ≤ present 0 slots) (λ x. x.cycle / interval ≤ stages interval slots) (λ x le. low_stage x.cycle le) slots rising

  all_good : All (Good (stages interval slots)) made
  all_good = kept_by_map interval (λ x. (x.stage ≤ stages interval slots) × (x.stage < 2 ^ 32)) made slots is
      (All-weaker (λ x. x.cycle ≤ present 0 slots) (λ x. (x.cycle / interval ≤ stages interval slots) × (x.cycle / interval < 2 ^ 32)) (λ x le. let low = low_stage x.cycle le in let few = small_stages in (low, omega (arith, low, few))) slots rising)

  good_after : All (Good (stages interval slots)) ys
  good_after = All-permutation (Good (stages interval slots)) made ys moved all_good

  low_offsets : All (λ x. x.offset < interval) (map kernel_slot_of ys)
  low_offsets = All-map (λ x. x.offset < interval) kernel_slot_of ys
      (All-permutation (λ x. x.offset < interval) made ys moved (kept_by_map interval (λ x. x.offset < interval) made slots is
      (All-weaker (λ x. x.cycle ≤ present 0 slots) (λ x. x.cycle % interval < interval) (λ x le. mod_below x.cycle interval some) slots rising)))

  pairs : AllPairs (GoesFirst (λ x. x.offset) (λ x. stages interval slots - x.stage)) (map kernel_slot_of ys)
  pairs i j d lt inside =
      let long = length-map ys kernel_slot_of in
      let none : KernelSlot = record { offset = 0; stage = 0; place = 0 } in
      let first : get_or (map kernel_slot_of ys) i d ≡ kernel_slot_of (get_or ys i none) = get_or-map kernel_slot_of ys i none d (omega (arith, lt, inside, long)) in
      let second : get_or (map kernel_slot_of ys) j d ≡ kernel_slot_of (get_or ys j none) = get_or-map kernel_slot_of ys j none d (omega (arith, inside, long)) in
      subst (λ (x : kernels.KernelSlot). GoesFirst (λ x. x.offset) (λ x. stages interval slots - x.stage) x (get_or (map kernel_slot_of ys) j d)) (sym first)
      (subst (λ (y : kernels.KernelSlot). GoesFirst (λ x. x.offset) (λ x. stages interval slots - x.stage) (kernel_slot_of (get_or ys i none)) y) (sym second)
      (goes_first (stages interval slots) (get_or ys i none) (get_or ys j none) (good_after i none (omega (arith, lt, inside, long))) (good_after j none (omega (arith, inside, long))) (sorted i j none (omega (arith, lt)) (omega (arith, inside, long)))))

  abbrev at : ℕ → ℕ → KernelSlot → Bool
  at i j x = x.offset == i && (stages interval slots - x.stage) == j

  same_filter : (i j : ℕ) → filter (at i j) ys ≡ filter (at i j) made
  same_filter i j = ⊎_elim
      (λ (past : stages interval slots < j).
      filter_none (at i j) ys (All-weaker (Good (stages interval slots)) (λ x. at i j x ≡ false) (λ x g. never x past) ys good_after)
      ∙ sym (filter_none (at i j) made (All-weaker (Good (stages interval slots)) (λ x. at i j x ≡ false) (λ x g. never x past) made all_good)))
      (λ (low : j ≤ stages interval slots).
      filter_where (at i j) (ties less (other j)) ys (All-weaker (Good (stages interval slots)) (λ x. at i j x ≡ ties less (other j) x) (λ x g. tied x low g) ys good_after)
      ∙ (stable (other j)
      ∙ sym (filter_where (at i j) (ties less (other j)) made (All-weaker (Good (stages interval slots)) (λ x. at i j x ≡ ties less (other j) x) (λ x g. tied x low g) made all_good))))
      (cases_lt (stages interval slots) j)
    where
      other : ℕ → KernelSlot
      other n = record { offset = i; stage = stages interval slots - n; place = 0 }

      never : (x : KernelSlot) → stages interval slots < j → at i j x ≡ false
      never x past = go (x.offset == i) (ne_eqb (stages interval slots - x.stage) j (λ e. omega (arith, e, past)))
        where
          go : (b : Bool) → ((stages interval slots - x.stage) == j) ≡ false → (b && ((stages interval slots - x.stage) == j)) ≡ false
          go true e = e
          go false e = refl

      tied : (x : KernelSlot) → j ≤ stages interval slots → Good (stages interval slots) x → at i j x ≡ ties less (other j) x
      tied x low g = same_bool (at i j x) (ties less (other j) x)
          (λ e. let (a, b) = and_parts (x.offset == i) ((stages interval slots - x.stage) == j) e in
          let offset = eqb-true x.offset i a in
          let stage = eqb-true (stages interval slots - x.stage) j b in
          let least = g.0 in
          same_ties (other j) x (omega (arith, offset, stage, least, low)))
          (λ e. let few = small_stages in
          let same = same_rank (stages interval slots) (other j) x (omega arith, omega (arith, few)) g (ties_same (other j) x e) in
          let offset = same.0 in let stage = same.1 in
          and_from (x.offset == i) ((stages interval slots - x.stage) == j) (eq-eqb x.offset i (omega (arith, offset))) (eq-eqb (stages interval slots - x.stage) j (omega (arith, stage, low))))

  pub sorted_slots : map kernel_slot_of ys ≡ kernel_slots interval slots
  sorted_slots = sorted_kernel interval some slots all_stages (map kernel_slot_of ys) pairs low_offsets (λ i j.
      filter_mapped kernel_slot_of (λ x. x.offset == i && (stages interval slots - x.stage) == j) ys
      ∙ (ap (map kernel_slot_of) (same_filter i j)
      ∙ (sym (filter_mapped kernel_slot_of (λ x. x.offset == i && (stages interval slots - x.stage) == j) made)
      ∙ ap (filter (λ x. x.offset == i && (stages interval slots - x.stage) == j)) is)))
