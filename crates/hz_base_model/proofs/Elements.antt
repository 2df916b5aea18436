-- What a filter, a map and a range contain.
use Rattle.std.proofs.Common.{◌≡◌, ℕ, ◌<◌, zero, suc, ◌⊎◌, inl, inr, ⊎_elim, Bool, true, List, [], ◌∷◌, map, filter, Contains, refl, sym, ap, ◌∙◌, subst, arith}
use Rattle.std.specs.List.{range_with_len}
use Rattle.std.proofs.lemmas.Bool.{cond_both}
use Rattle.std.proofs.lemmas.List.{length-map, get_or-map}
use Rattle.std.proofs.lemmas.List.FromFn.{length-range_with_len, get_or-range_with_len}

module _ {X : Type 0} where
  pub Contains-nil : (x : X) → Contains [] x → ⊥
  Contains-nil x h = let lt = h.1 in omega arith

  pub Contains-head : (x : X) (xs : List X) → Contains (x ∷ xs) x
  Contains-head x xs = (0, omega arith, refl)

  pub Contains-tail : (y x : X) (xs : List X) → Contains xs x → Contains (y ∷ xs) x
  Contains-tail y x xs h = (suc h.0, omega arith, h.2)

  pub Contains-cons_cases : (y x : X) (xs : List X) → Contains (y ∷ xs) x → (y ≡ x) ⊎ Contains xs x
  Contains-cons_cases y x xs (zero, lt, e) = inl e
  Contains-cons_cases y x xs (suc k, lt, e) = inr (k, omega arith, e)

  pub Contains-filter : (p : X → Bool) (x : X) → p x ≡ true → (xs : List X) → Contains xs x → Contains (filter p xs) x
  Contains-filter p x passes [] h = h
  Contains-filter p x passes (y ∷ ys) h =
      cond_both (p y) (y ∷ filter p ys) (filter p ys) (λ zs. Contains zs x)
      (λ _. ⊎_elim
      (λ (e : y ≡ x). subst (λ (z : X). Contains (z ∷ filter p ys) x) (sym e) (Contains-head x (filter p ys)))
      (λ (k : Contains ys x). Contains-tail y x (filter p ys) (Contains-filter p x passes ys k))
      (Contains-cons_cases y x ys h))
      (λ fails. ⊎_elim
      (λ (e : y ≡ x). let e' = ap p e in cc)
      (λ (k : Contains ys x). Contains-filter p x passes ys k)
      (Contains-cons_cases y x ys h))

  pub Contains-from_filter : (p : X → Bool) (x : X) (xs : List X) → Contains (filter p xs) x → Contains xs x × (p x ≡ true)
  Contains-from_filter p x [] = λ h. absurd (Contains-nil x h)
  Contains-from_filter p x (y ∷ ys) =
      cond_both (p y) (y ∷ filter p ys) (filter p ys) (λ zs. Contains zs x → Contains (y ∷ ys) x × (p x ≡ true))
      (λ passes h. ⊎_elim
      (λ (e : y ≡ x). (subst (λ (z : X). Contains (z ∷ ys) x) (sym e) (Contains-head x ys), ap p (sym e) ∙ passes))
      (λ (k : Contains (filter p ys) x). let rest = Contains-from_filter p x ys k in (Contains-tail y x ys rest.0, rest.1))
      (Contains-cons_cases y x (filter p ys) h))
      (λ _ h. let rest = Contains-from_filter p x ys h in (Contains-tail y x ys rest.0, rest.1))

  pub Contains-map : {Y : Type 0} (f : X → Y) (xs : List X) (x : X) → Contains xs x → Contains (map f xs) (f x)
  Contains-map f xs x h =
      let within = h.1 in
      let long = length-map xs f in
      (h.0, omega arith, get_or-map f xs h.0 x (f x) within ∙ ap f h.2)

  pub Contains-from_map : {Y : Type 0} (f : X → Y) (xs : List X) (y : Y) → Contains (map f xs) y → (x : X) × Contains xs x × (f x ≡ y)
  Contains-from_map f [] y h = absurd (omega (arith, h.1))
  Contains-from_map f (x ∷ xs) y (zero, lt, e) = (x, Contains-head x xs, e)
  Contains-from_map f (x ∷ xs) y (suc k, lt, e) =
      let rest = Contains-from_map f xs y (k, omega arith, e) in
      (rest.0, Contains-tail x rest.0 xs rest.1, rest.2)

pub Contains-range : (n x : ℕ) → x < n → Contains (range_with_len 0 n) x
Contains-range n x h =
    let long = length-range_with_len 0 n in
    (x, omega arith, get_or-range_with_len 0 n x x h ∙ omega arith)

pub Contains-from_range : (n x : ℕ) → Contains (range_with_len 0 n) x → x < n
Contains-from_range n x h =
    let long = length-range_with_len 0 n in
    let within : h.0 < n = omega (arith, h.1) in
    omega (arith, h.2, get_or-range_with_len 0 n h.0 x within)
