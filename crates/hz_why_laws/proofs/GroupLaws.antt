-- A group has what is alike to its first, and each item is in one group.
use Rattle.std.proofs.Common.{◌≡◌, ℕ, zero, suc, ◌+◌, ◌<◌, ◌≤◌, ⊎_elim, Bool, true, false, cond, List, [], ◌∷◌, ◌++◌, length, get_or, Contains, Option, Some, None, refl, sym, ap, ◌∙◌, subst, arith}
use Rattle.std.specs.Prelude.{◌==◌, All, filter, slice_get}
use Rattle.std.specs.Cmp.{IsEquivalence}
use Rattle.std.specs.List.{AllPairs, flat_map, range_with_len}
use Rattle.std.specs.Option.{option_map, option_map_or}
use Rattle.std.proofs.lemmas.Bool.{eqb-true, eq-eqb}
use Rattle.std.proofs.lemmas.List.{length-map}
use Rattle.std.proofs.lemmas.List.Elements.{Contains-get_or}
use Rattle.std.proofs.lemmas.List.Kept.{AllPairs-cons, AllPairs-filter}
use Rattle.std.proofs.lemmas.Option.{slice_get-map, slice_get_within, slice_get_cases, get_or_from_slice_get}
use Rattle.hz_base_model.proofs.Ascending.{AllPairs-range}
use Rattle.hz_base_model.proofs.Elements.{Contains-nil, Contains-head, Contains-tail, Contains-cons_cases, Contains-filter, Contains-from_filter, Contains-range, Contains-from_range}
use Rattle.hz_why_model.specs.Groups.{first_place, leaders, led_by, groups_from, group_texts}
use Rattle.hz_why_laws.specs.Grouped.{Leads, group_at, IsNumberOf, IsTheGroupOf, leading, text_at}

-- ---- the first place of which a test holds

module _ {A : Type 0} where
  some_is : (x y : A) → Some x ≡ Some y → x ≡ y
  some_is x y e = cc

  none_is : (x : A) → None ≡ Some x → ⊥
  none_is x e = cc

  -- two tests that agree
  first_agrees : (f g : A → Bool) → ((z : A) → f z ≡ g z) → (xs : List A) → first_place f xs ≡ first_place g xs
  first_agrees f g same [] = refl
  first_agrees f g same (x ∷ xs) = ap (λ (b : Bool). cond b 0 (suc (first_place f xs))) (same x) ∙ ap (λ (n : ℕ). cond (g x) 0 (suc n)) (first_agrees f g same xs)

  -- it is not after an item of which the test holds
  first_within : (f : A → Bool) (xs : List A) (i : ℕ) (x : A) → slice_get xs i ≡ Some x → f x ≡ true → first_place f xs ≤ i
  first_within f [] i x there holds = absurd (none_is x there)
  first_within f (y ∷ xs) zero x there holds =
      let here : f y ≡ true = ap f (some_is y x there) ∙ holds in
      let none : first_place f (y ∷ xs) ≡ 0 = ap (λ (b : Bool). cond b 0 (suc (first_place f xs))) here in
      omega arith
  first_within f (y ∷ xs) (suc i) x there holds = by_test (f y) (first_within f xs i x there holds)
    where
      by_test : (b : Bool) → first_place f xs ≤ i → cond b 0 (suc (first_place f xs)) ≤ suc i
      by_test true low = omega arith
      by_test false low = omega arith

  -- of the item that is there the test holds
  first_holds : (f : A → Bool) (xs : List A) (i : ℕ) (x : A) → slice_get xs i ≡ Some x → first_place f xs ≡ i → f x ≡ true
  first_holds f [] i x there at = absurd (none_is x there)
  first_holds f (y ∷ xs) zero x there at = by_test (f y) refl at
    where
      by_test : (b : Bool) → f y ≡ b → cond b 0 (suc (first_place f xs)) ≡ 0 → f x ≡ true
      by_test true is none = ap f (sym (some_is y x there)) ∙ is
      by_test false is none = absurd (omega arith)
  first_holds f (y ∷ xs) (suc i) x there at = first_holds f xs i x there (by_test (f y) at)
    where
      by_test : (b : Bool) → cond b 0 (suc (first_place f xs)) ≡ suc i → first_place f xs ≡ i
      by_test true next = absurd (omega arith)
      by_test false next = omega arith

-- ---- the numbers that a place leads

-- the number is that of a place with this leader, where the first has the number `start`
abbrev IsLed : (place start : ℕ) → List ℕ → ℕ → Type 0
IsLed place start ls number = (i : ℕ) × (i < length ls) × (get_or ls i 0 ≡ place) × (number ≡ start + i)

is_led : (place start : ℕ) (ls : List ℕ) (number : ℕ) → Contains (led_by place start ls) number → IsLed place start ls number
is_led place start [] number there = absurd (Contains-nil number there)
is_led place start (l ∷ ls) number there = by_test (λ rest. is_led place (suc start) ls number rest) (l == place) refl there
  where
    later : IsLed place (suc start) ls number → IsLed place start (l ∷ ls) number
    later led = let low = led.1 in let far = led.3 in (suc led.0, omega arith, led.2, omega arith)

    by_test : (Contains (led_by place (suc start) ls) number → IsLed place (suc start) ls number) → (b : Bool) → (l == place) ≡ b → Contains (cond b (start ∷ led_by place (suc start) ls) (led_by place (suc start) ls)) number → IsLed place start (l ∷ ls) number
    by_test on true is held = ⊎_elim
        (λ (here : start ≡ number). (0, omega arith, eqb-true l place is, omega arith))
        (λ rest. later (on rest))
        (Contains-cons_cases start number (led_by place (suc start) ls) held)
    by_test on false is held = later (on held)

led_here : (place start : ℕ) (ls : List ℕ) (i : ℕ) → i < length ls → get_or ls i 0 ≡ place → Contains (led_by place start ls) (start + i)
led_here place start [] i low at = absurd (omega arith)
led_here place start (l ∷ ls) zero low at =
    let one : led_by place start (l ∷ ls) ≡ start ∷ led_by place (suc start) ls = ap (λ (b : Bool). cond b (start ∷ led_by place (suc start) ls) (led_by place (suc start) ls)) (eq-eqb l place at) in
    let same : start + 0 ≡ start = omega arith in
    subst (λ (n : ℕ). Contains (led_by place start (l ∷ ls)) n) (sym same) (subst (λ (ns : List ℕ). Contains ns start) (sym one) (Contains-head start (led_by place (suc start) ls)))
led_here place start (l ∷ ls) (suc i) low at =
    let same : suc start + i ≡ start + suc i = omega arith in
    let rest : Contains (led_by place (suc start) ls) (start + suc i) = subst (λ (n : ℕ). Contains (led_by place (suc start) ls) n) same (led_here place (suc start) ls i (omega arith) at) in
    by_test (l == place) rest
  where
    by_test : (b : Bool) → Contains (led_by place (suc start) ls) (start + suc i) → Contains (cond b (start ∷ led_by place (suc start) ls) (led_by place (suc start) ls)) (start + suc i)
    by_test true rest = Contains-tail start (start + suc i) (led_by place (suc start) ls) rest
    by_test false rest = rest

-- they ascend
pub ascending : (place start : ℕ) (ls : List ℕ) → AllPairs (λ m n. m < n) (led_by place start ls)
ascending place start [] = λ i j d before low. absurd (omega arith)
ascending place start (l ∷ ls) = by_test (l == place) (ascending place (suc start) ls)
  where
    above : All (λ n. start < n) (led_by place (suc start) ls)
    above = λ k d low.
        let led = is_led place (suc start) ls (get_or (led_by place (suc start) ls) k d) (Contains-get_or (led_by place (suc start) ls) k d low) in
        let far = led.3 in
        omega arith

    by_test : (b : Bool) → AllPairs (λ m n. m < n) (led_by place (suc start) ls) → AllPairs (λ m n. m < n) (cond b (start ∷ led_by place (suc start) ls) (led_by place (suc start) ls))
    by_test true rest = AllPairs-cons (λ m n. m < n) start (led_by place (suc start) ls) above rest
    by_test false rest = rest

-- ---- groups

module _ {A : Type 0} (alike : A → A → Bool) (is : IsEquivalence alike) (items : List A) where
  -- the leader of an item
  leader_is : (i : ℕ) (x : A) → slice_get items i ≡ Some x → get_or (leaders alike items) i 0 ≡ first_place (alike x) items
  leader_is i x there =
      get_or_from_slice_get (leaders alike items) i (first_place (alike x) items) 0
      (slice_get-map (λ (y : A). first_place (alike y) items) items i ∙ ap (option_map (λ (y : A). first_place (alike y) items)) there)

  count : length (leaders alike items) ≡ length items
  count = length-map items (λ (y : A). first_place (alike y) items)

  -- items that are alike have the same leader
  same_leader : (x y : A) → alike x y ≡ true → first_place (alike x) items ≡ first_place (alike y) items
  same_leader x y e = first_agrees (alike x) (alike y) (λ z. is.congr x y z e) items

  item_at : (i : ℕ) → i < length items → (x : A) × (slice_get items i ≡ Some x)
  item_at i low = ⊎_elim (λ found. (found.0, found.2)) (λ past. let high = past.0 in absurd (omega arith)) (slice_get_cases items i).1

  module _ (place : ℕ) (first : A) (at : slice_get items place ≡ Some first) (leads : Leads alike items place) where
    leads_itself : first_place (alike first) items ≡ place
    leads_itself = sym (leader_is place first at) ∙ leads.1

    pub group_has : (number : ℕ) → Contains (group_at alike items place) number → IsNumberOf alike items first number
    group_has number there =
        let led = is_led place 1 (leaders alike items) number there in
        let low = led.1 in
        let here = item_at led.0 (omega (arith, count)) in
        let holds : alike here.0 first ≡ true = first_holds (alike here.0) items place first at (sym (leader_is led.0 here.0 here.1) ∙ led.2) in
        let far = led.3 in
        (led.0, here.0, here.1, is.symm first here.0 ∙ holds, omega arith)

    pub group_holds : (number : ℕ) → IsNumberOf alike items first number → Contains (group_at alike items place) number
    group_holds number n =
        let low = slice_get_within items n.0 n.1 n.2 in
        let held = led_here place 1 (leaders alike items) n.0 (omega (arith, count)) (leader_is n.0 n.1 n.2 ∙ (sym (same_leader first n.1 n.3) ∙ leads_itself)) in
        let same : 1 + n.0 ≡ number = let far = n.4 in omega arith in
        subst (λ (m : ℕ). Contains (group_at alike items place) m) same held

  pub one_group : (i : ℕ) → i < length items → (place : ℕ) × IsTheGroupOf alike items (suc i) place
  one_group i low =
      let here = item_at i low in
      let place : ℕ = first_place (alike here.0) items in
      let within : place ≤ i = first_within (alike here.0) items i here.0 here.1 (is.refl here.0) in
      let first = item_at place (omega arith) in
      let holds : alike here.0 first.0 ≡ true = first_holds (alike here.0) items place first.0 first.1 refl in
      let held = led_here place 1 (leaders alike items) i (omega (arith, count)) (leader_is i here.0 here.1) in
      let same : 1 + i ≡ suc i = omega arith in (
        place,
        (
          (omega arith, leader_is place first.0 first.1 ∙ sym (same_leader here.0 first.0 holds)),
          subst (λ (m : ℕ). Contains (group_at alike items place) m) same held,
          λ other leads there.
              let led = is_led other 1 (leaders alike items) (suc i) there in
              let far = led.3 in
              let same_place : led.0 ≡ i = omega arith in
              sym led.2 ∙ (ap (λ (j : ℕ). get_or (leaders alike items) j 0) same_place ∙ leader_is i here.0 here.1),
        ),
      )

-- ---- the texts of groups

module _ {A : Type 0} (alike : A → A → Bool) (items : List A) where
  pub leading_leads : (place : ℕ) → Contains (leading alike items) place → Leads alike items place
  leading_leads place there =
      let kept = Contains-from_filter (λ (p : ℕ). get_or (leaders alike items) p 0 == p) place (range_with_len 0 (length items)) there in
      (Contains-from_range (length items) place kept.0, eqb-true (get_or (leaders alike items) place 0) place kept.1)

  pub leads_leading : (place : ℕ) → Leads alike items place → Contains (leading alike items) place
  leads_leading place is =
      Contains-filter (λ (p : ℕ). get_or (leaders alike items) p 0 == p) place (eq-eqb (get_or (leaders alike items) place 0) place is.1) (range_with_len 0 (length items)) (Contains-range (length items) place is.0)

  pub leading_ascend : AllPairs (λ m n. m < n) (leading alike items)
  leading_ascend = AllPairs-filter (λ m n. m < n) (λ (p : ℕ). get_or (leaders alike items) p 0 == p) (range_with_len 0 (length items)) (AllPairs-range (length items))

  module _ (text : List ℕ → A → List ℕ) where
    texts_from : (place : ℕ) (xs : List A) → ((k : ℕ) → slice_get items (place + k) ≡ slice_get xs k)
        → groups_from text (leaders alike items) place xs ≡ flat_map (text_at alike items text) (filter (λ (p : ℕ). get_or (leaders alike items) p 0 == p) (range_with_len place (length xs)))
    texts_from place [] same = refl
    texts_from place (x ∷ xs) same =
        let here : slice_get items place ≡ Some x = let none : place + 0 ≡ place = omega arith in sym (ap (slice_get items) none) ∙ same 0 in
        let on : suc place ≡ place + 1 = omega arith in
        let rest = texts_from (place + 1) xs (λ k. let next : place + 1 + k ≡ place + suc k = omega arith in ap (slice_get items) next ∙ same (suc k)) in
        ap (λ (n : ℕ). cond (get_or (leaders alike items) place 0 == place) (text (led_by place 1 (leaders alike items)) x) [] ++ groups_from text (leaders alike items) n xs) on
        ∙ by_test (get_or (leaders alike items) place 0 == place) (sym (ap (λ (o : Option A). option_map_or (λ first. text (group_at alike items place) first) o []) here)) rest
      where
        by_test : (b : Bool) → text (led_by place 1 (leaders alike items)) x ≡ text_at alike items text place
            → groups_from text (leaders alike items) (place + 1) xs ≡ flat_map (text_at alike items text) (filter (λ (p : ℕ). get_or (leaders alike items) p 0 == p) (range_with_len (place + 1) (length xs)))
            → cond b (text (led_by place 1 (leaders alike items)) x) [] ++ groups_from text (leaders alike items) (place + 1) xs
            ≡ flat_map (text_at alike items text) (cond b (place ∷ filter (λ (p : ℕ). get_or (leaders alike items) p 0 == p) (range_with_len (place + 1) (length xs))) (filter (λ (p : ℕ). get_or (leaders alike items) p 0 == p) (range_with_len (place + 1) (length xs))))
        by_test true one rest = ap (λ (t : List ℕ). t ++ groups_from text (leaders alike items) (place + 1) xs) one ∙ ap (λ (t : List ℕ). text_at alike items text place ++ t) rest
        by_test false one rest = rest

    pub texts_are : group_texts alike text items ≡ flat_map (text_at alike items text) (leading alike items)
    texts_are = texts_from 0 items (λ k. let none : 0 + k ≡ k = omega arith in ap (slice_get items) none)
