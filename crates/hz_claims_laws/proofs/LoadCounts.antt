-- What a load counts, and that its value is the greatest that counting gives.
use Rattle.std.proofs.Common.{◌≡◌, ℕ, ◌+◌, ◌<◌, ◌≤◌, min, max, Bool, true, false, cond, List, [], ◌∷◌, map, length, Contains, Some, None, refl, sym, ap, ◌∙◌, subst, arith, ⊎_elim, eq-zero-or-pos, nat_lt, sum_by}
use Rattle.std.specs.List.{flat_map}
use Rattle.std.proofs.lemmas.Bool.{ltb-true, ltb-false, lt-ltb}
use Rattle.std.proofs.lemmas.List.Elements.{Contains-append_left, Contains-append_right, Contains-append_cases}
use Rattle.hz_base_model.proofs.Elements.{Contains-nil, Contains-head, Contains-tail, Contains-cons_cases, Contains-filter, Contains-from_filter, Contains-map, Contains-from_map}
use Rattle.hz_measure_model.specs.Bounds.Paths.{greatest}
use Rattle.hz_measure_model.specs.Bounds.Loads.{Load, least, force, users, cycles_of_users, asked_load, load_of}
use Rattle.hz_measure_model.proofs.Bounds.Numbers.{greatest_above, least_below}
use Rattle.hz_measure_model.proofs.Bounds.LoadLaws.{count_all}
use Rattle.hz_claims_laws.specs.Users.{TakesAt}

-- ---- numbers that are reached

greatest_there : (m : ℕ) (ns : List ℕ) → Contains (m ∷ ns) (greatest (m ∷ ns))
greatest_there m [] = subst (Contains (m ∷ [])) (let is : m ≡ max m 0 = omega arith in is) (Contains-head m [])
greatest_there m (o ∷ ns) = by_test (greatest_there o ns) (nat_lt m (greatest (o ∷ ns))) refl
  where
    by_test : Contains (o ∷ ns) (greatest (o ∷ ns)) → (t : Bool) → nat_lt m (greatest (o ∷ ns)) ≡ t → Contains (m ∷ o ∷ ns) (max m (greatest (o ∷ ns)))
    by_test rest true e = let low = ltb-true m (greatest (o ∷ ns)) e in subst (Contains (m ∷ o ∷ ns)) (let is : greatest (o ∷ ns) ≡ max m (greatest (o ∷ ns)) = omega (arith, low) in is) (Contains-tail m (greatest (o ∷ ns)) (o ∷ ns) rest)
    by_test rest false e = let low = ltb-false m (greatest (o ∷ ns)) e in subst (Contains (m ∷ o ∷ ns)) (let is : m ≡ max m (greatest (o ∷ ns)) = omega (arith, low) in is) (Contains-head m (o ∷ ns))

least_there : (m : ℕ) (ns : List ℕ) → Contains (m ∷ ns) (least (m ∷ ns))
least_there m [] = Contains-head m []
least_there m (o ∷ ns) = by_test (least_there o ns) (nat_lt m (least (o ∷ ns))) refl
  where
    by_test : Contains (o ∷ ns) (least (o ∷ ns)) → (t : Bool) → nat_lt m (least (o ∷ ns)) ≡ t → Contains (m ∷ o ∷ ns) (min m (least (o ∷ ns)))
    by_test rest true e = let low = ltb-true m (least (o ∷ ns)) e in subst (Contains (m ∷ o ∷ ns)) (let is : m ≡ min m (least (o ∷ ns)) = omega (arith, low) in is) (Contains-head m (o ∷ ns))
    by_test rest false e = let low = ltb-false m (least (o ∷ ns)) e in subst (Contains (m ∷ o ∷ ns)) (let is : least (o ∷ ns) ≡ min m (least (o ∷ ns)) = omega (arith, low) in is) (Contains-tail m (least (o ∷ ns)) (o ∷ ns) rest)

in_flat_map : {A B : Type 0} (f : A → List B) (xs : List A) (x : A) (y : B) → Contains xs x → Contains (f x) y → Contains (flat_map f xs) y
in_flat_map f [] x y h k = absurd (Contains-nil x h)
in_flat_map f (z ∷ xs) x y h k = ⊎_elim
    (λ (same : z ≡ x). Contains-append_left (f z) (flat_map f xs) y (subst (λ w. Contains (f w) y) (sym same) k))
    (λ (there : Contains xs x). Contains-append_right (f z) (flat_map f xs) y (in_flat_map f xs x y there k))
    (Contains-cons_cases z x xs h)

from_flat_map : {A B : Type 0} (f : A → List B) (xs : List A) (y : B) → Contains (flat_map f xs) y → (x : A) × Contains xs x × Contains (f x) y
from_flat_map f [] y h = absurd (Contains-nil y h)
from_flat_map f (z ∷ xs) y h = ⊎_elim
    (λ (k : Contains (f z) y). (z, Contains-head z xs, k))
    (λ (k : Contains (flat_map f xs) y). let is = from_flat_map f xs y k in (is.0, Contains-tail z is.0 xs is.1, is.2))
    (Contains-append_cases (f z) (flat_map f xs) y h)

module _ (taken : ℕ → List (List ℕ)) where
  -- a class asks for as few cycles as some alternative of it takes, and no alternative takes fewer
  pub fewest : (k : ℕ) (w : List ℕ) → Contains (taken k) w → force taken k ≤ length w
  fewest k w h = least_below (map length (taken k)) (length w) (Contains-map length (taken k) w h)

  pub some_fewest : (k : ℕ) (w : List ℕ) → Contains (taken k) w → (v : List ℕ) × Contains (taken k) v × (length v ≡ force taken k)
  some_fewest k w h = of (taken k) h refl
    where
      of : (ws : List (List ℕ)) → Contains ws w → taken k ≡ ws → (v : List ℕ) × Contains (taken k) v × (length v ≡ force taken k)
      of [] there e = absurd (Contains-nil w there)
      of (u ∷ ws) there e =
          let is = Contains-from_map length (u ∷ ws) (least (map length (u ∷ ws))) (least_there (length u) (map length ws)) in
          (is.0, subst (λ (vs : List (List ℕ)). Contains vs is.0) (sym e) is.1, is.2 ∙ ap (λ (vs : List (List ℕ)). least (map length vs)) (sym e))

  load_is : (classes : List ℕ) (l : Load) → load_of taken classes ≡ Some l → asked_load taken classes ≡ l
  load_is classes l e = by_test (nat_lt 0 (length (users taken classes))) e
    where
      by_test : (t : Bool) → cond t (Some (asked_load taken classes)) None ≡ Some l → asked_load taken classes ≡ l
      by_test true k = cc
      by_test false k = absurd (cc)

  users_there : (classes : List ℕ) (l : Load) → load_of taken classes ≡ Some l → 0 < length (users taken classes)
  users_there classes l e = by_test (nat_lt 0 (length (users taken classes))) refl e
    where
      by_test : (t : Bool) → nat_lt 0 (length (users taken classes)) ≡ t → cond t (Some (asked_load taken classes)) None ≡ Some l → 0 < length (users taken classes)
      by_test true g k = ltb-true 0 (length (users taken classes)) g
      by_test false g k = absurd (cc)

  -- without a load no instruction asks for a cycle
  pub unasked : (classes : List ℕ) (k : ℕ) → load_of taken classes ≡ None → Contains classes k → force taken k ≡ 0
  unasked classes k e there = ⊎_elim (λ (none : force taken k ≡ 0). none) (λ (some : 0 < force taken k). absurd (by_users (users taken classes) (Contains-filter (λ k. nat_lt 0 (force taken k)) k (lt-ltb 0 (force taken k) some) classes there) e)) (eq-zero-or-pos (force taken k))
    where
      by_test : (t : Bool) → t ≡ true → cond t (Some (asked_load taken classes)) None ≡ None → ⊥
      by_test true g h = absurd (cc)
      by_test false g h = absurd (cc)

      by_users : (us : List ℕ) → Contains us k → cond (nat_lt 0 (length us)) (Some (asked_load taken classes)) None ≡ None → ⊥
      by_users [] c h = Contains-nil k c
      by_users (u ∷ us) c h = by_test (nat_lt 0 (length (u ∷ us))) (lt-ltb 0 (length (u ∷ us)) (omega arith)) h

  -- all instructions together ask for the count
  pub counted : (classes : List ℕ) (l : Load) → load_of taken classes ≡ Some l → l.count ≡ sum_by (force taken) classes
  counted classes l e = sym (ap (λ (l : Load). l.count) (load_is classes l e)) ∙ count_all (force taken) classes

  -- in the cycles up to the value, and the span after it, there is room for the count
  pub room : (classes : List ℕ) (l : Load) → load_of taken classes ≡ Some l → l.count ≤ l.value + (l.span + 1)
  room classes l e = subst (λ (l : Load). l.count ≤ l.value + (l.span + 1)) (load_is classes l e) (omega arith)

  -- in fewer there is none
  pub no_less : (classes : List ℕ) (l : Load) (v : ℕ) → load_of taken classes ≡ Some l → l.count ≤ v + (l.span + 1) → l.value ≤ v
  no_less classes l v e = subst (λ (l : Load). l.count ≤ v + (l.span + 1) → l.value ≤ v) (load_is classes l e) (λ h. omega (arith, h))

  -- the cycle is one in which an alternative of an instruction that can't do without the unit takes it
  of_user : (classes : List ℕ) (k : ℕ) (w : List ℕ) (c : ℕ) → Contains classes k → 0 < force taken k → Contains (taken k) w → Contains w c → Contains (cycles_of_users taken classes) c
  of_user classes k w c there some way at =
      in_flat_map (λ k. flat_map (λ cycles. cycles) (taken k)) (users taken classes) k c
      (Contains-filter (λ k. nat_lt 0 (force taken k)) k (lt-ltb 0 (force taken k) some) classes there)
      (in_flat_map (λ (cycles : List ℕ). cycles) (taken k) w c way at)

  of_all : (classes : List ℕ) (c : ℕ) → TakesAt taken classes c → Contains (cycles_of_users taken classes) c
  of_all classes c h = of_user classes h.class h.way c h.there h.some h.taken_so h.at

  pub within : (classes : List ℕ) (l : Load) (c e : ℕ) → load_of taken classes ≡ Some l → TakesAt taken classes c → TakesAt taken classes e → c ≤ e + l.span
  within classes l c e is h k =
      let high = greatest_above (cycles_of_users taken classes) c (of_all classes c h) in
      let low = least_below (cycles_of_users taken classes) e (of_all classes e k) in
      subst (λ (l : Load). c ≤ e + l.span) (load_is classes l is) (omega (arith, high, low))

  -- a user takes the unit in some cycle
  taken_by : (k : ℕ) → 0 < force taken k → (w : List ℕ) × Contains (taken k) w × (c : ℕ) × Contains w c
  taken_by k some = of (taken k) some refl
    where
      some_in : (w : List ℕ) → 0 < length w → (c : ℕ) × Contains w c
      some_in [] h = absurd (omega (arith, h))
      some_in (c ∷ w) h = (c, Contains-head c w)

      of : (ws : List (List ℕ)) → 0 < least (map length ws) → taken k ≡ ws → (w : List ℕ) × Contains (taken k) w × (c : ℕ) × Contains w c
      of [] h e = absurd (omega (arith, h))
      of (w ∷ ws) h e =
          let low = least_below (map length (w ∷ ws)) (length w) (Contains-head (length w) (map length ws)) in
          let found = some_in w (omega (arith, h, low)) in
          (w, subst (λ (vs : List (List ℕ)). Contains vs w) (sym e) (Contains-head w ws), found.0, found.1)

  first_user : (classes : List ℕ) → 0 < length (users taken classes) → (k : ℕ) × Contains classes k × (0 < force taken k)
  first_user classes h = of (users taken classes) h refl
    where
      of : (ks : List ℕ) → 0 < length ks → users taken classes ≡ ks → (k : ℕ) × Contains classes k × (0 < force taken k)
      of [] h e = absurd (omega (arith, h))
      of (k ∷ ks) h e =
          let is = Contains-from_filter (λ k. nat_lt 0 (force taken k)) k classes (subst (λ (js : List ℕ). Contains js k) (sym e) (Contains-head k ks)) in
          (k, is.0, ltb-true 0 (force taken k) is.1)

  -- a cycle of users is that of one
  uses : (classes : List ℕ) (c : ℕ) → Contains (cycles_of_users taken classes) c → TakesAt taken classes c
  uses classes c h =
      let one = from_flat_map (λ k. flat_map (λ cycles. cycles) (taken k)) (users taken classes) c h in
      let user = Contains-from_filter (λ k. nat_lt 0 (force taken k)) one.0 classes one.1 in
      let way = from_flat_map (λ (cycles : List ℕ). cycles) (taken one.0) c one.2 in
      record { class = one.0; way = way.0; there = user.0; some = ltb-true 0 (force taken one.0) user.1; taken_so = way.1; at = way.2 }

  -- two cycles are as far apart as the span
  pub apart : (classes : List ℕ) (l : Load) → load_of taken classes ≡ Some l → (c : ℕ) × (e : ℕ) × TakesAt taken classes c × TakesAt taken classes e × (c ≡ e + l.span)
  apart classes l is = of (cycles_of_users taken classes) refl
    where
      of : (cs : List ℕ) → cycles_of_users taken classes ≡ cs → (c : ℕ) × (e : ℕ) × TakesAt taken classes c × TakesAt taken classes e × (c ≡ e + l.span)
      of [] none =
          let user = first_user classes (users_there classes l is) in
          let at = taken_by user.0 user.2 in
          absurd (Contains-nil at.2 (subst (λ (xs : List ℕ). Contains xs at.2) none (of_user classes user.0 at.0 at.2 user.1 user.2 at.1 at.3)))
      of (m ∷ cs) some =
          let high : Contains (cycles_of_users taken classes) (greatest (cycles_of_users taken classes)) = subst (λ (xs : List ℕ). Contains xs (greatest xs)) (sym some) (greatest_there m cs) in
          let low : Contains (cycles_of_users taken classes) (least (cycles_of_users taken classes)) = subst (λ (xs : List ℕ). Contains xs (least xs)) (sym some) (least_there m cs) in
          let order = least_below (cycles_of_users taken classes) (greatest (cycles_of_users taken classes)) high in (
            greatest (cycles_of_users taken classes),
            least (cycles_of_users taken classes),
            uses classes (greatest (cycles_of_users taken classes)) high,
            uses classes (least (cycles_of_users taken classes)) low,
            subst (λ (l : Load). greatest (cycles_of_users taken classes) ≡ least (cycles_of_users taken classes) + l.span) (load_is classes l is) (omega (arith, order)),
          )
