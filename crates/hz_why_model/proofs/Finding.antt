-- The first item that passes a test, and whether some or all items do.
use Rattle.std.proofs.Common.{◌≡◌, ℕ, zero, suc, ⊎_elim, Bool, true, false, List, [], ◌∷◌, Contains, Some, None, refl, ap, ◌∙◌, subst}
use Rattle.std.specs.Prelude.{slice_get}
use Rattle.std.specs.List.{find, list_any, list_all}
use Rattle.std.proofs.lemmas.Bool.{and_parts, and_from, or_left, or_right}
use Rattle.hz_base_model.proofs.Elements.{Contains-nil, Contains-head, Contains-tail, Contains-cons_cases}

module _ {X : Type 0} where
  -- an item at a place is one of the items
  pub Contains-at : (xs : List X) (n : ℕ) (x : X) → slice_get xs n ≡ Some x → Contains xs x
  Contains-at [] n x h = absurd (cc)
  Contains-at (y ∷ xs) zero x h = let e : y ≡ x = cc in subst (λ (z : X). Contains (y ∷ xs) z) e (Contains-head y xs)
  Contains-at (y ∷ xs) (suc n) x h = Contains-tail y x xs (Contains-at xs n x h)

  found_by : (test : X → Bool) (y x : X) (xs : List X) (b : Bool) → test y ≡ b → (find test xs ≡ Some x → Contains xs x × (test x ≡ true)) → find test (y ∷ xs) ≡ Some x → Contains (y ∷ xs) x × (test x ≡ true)
  found_by test y x xs true e rest h =
      let same : y ≡ x = let there = rw e at h in cc in
      (subst (λ (z : X). Contains (y ∷ xs) z) same (Contains-head y xs), subst (λ (z : X). test z ≡ true) same e)
  found_by test y x xs false e rest h = let later = rest (rw e at h) in (Contains-tail y x xs later.0, later.1)

  -- what is found is one of the items, and passes
  pub found : (test : X → Bool) (xs : List X) (x : X) → find test xs ≡ Some x → Contains xs x × (test x ≡ true)
  found test [] x h = absurd (cc)
  found test (y ∷ xs) x h = found_by test y x xs (test y) refl (found test xs x) h

  none_by : (test : X → Bool) (y x : X) (xs : List X) (b : Bool) → test y ≡ b → (find test xs ≡ None → Contains xs x → test x ≡ false) → find test (y ∷ xs) ≡ None → Contains (y ∷ xs) x → test x ≡ false
  none_by test y x xs true e rest h is = absurd (let there = rw e at h in cc)
  none_by test y x xs false e rest h is = ⊎_elim (λ same. subst (λ (z : X). test z ≡ false) same e) (rest (rw e at h)) (Contains-cons_cases y x xs is)

  -- where nothing is found no item passes
  pub none_passes : (test : X → Bool) (xs : List X) → find test xs ≡ None → (x : X) → Contains xs x → test x ≡ false
  none_passes test [] h x is = absurd (Contains-nil x is)
  none_passes test (y ∷ xs) h x is = none_by test y x xs (test y) refl (λ none. none_passes test xs none x) h is

  any_by : (test : X → Bool) (y : X) (xs : List X) (b : Bool) → test y ≡ b → (list_any test xs ≡ true → (x : X) × (find test xs ≡ Some x)) → list_any test (y ∷ xs) ≡ true → (x : X) × (find test (y ∷ xs) ≡ Some x)
  any_by test y xs true e rest h = (y, rw e refl)
  any_by test y xs false e rest h = let later = rest (rw e at h) in (later.0, rw e later.1)

  -- where some item passes one is found
  pub found_any : (test : X → Bool) (xs : List X) → list_any test xs ≡ true → (x : X) × (find test xs ≡ Some x)
  found_any test [] h = absurd (cc)
  found_any test (y ∷ xs) h = any_by test y xs (test y) refl (found_any test xs) h

  -- an item that passes is one of some
  pub any_from : (test : X → Bool) (xs : List X) (x : X) → Contains xs x → test x ≡ true → list_any test xs ≡ true
  any_from test [] x is h = absurd (Contains-nil x is)
  any_from test (y ∷ xs) x is h = ⊎_elim
      (λ e. or_left (test y) (list_any test xs) (ap test e ∙ h))
      (λ there. or_right (test y) (list_any test xs) (any_from test xs x there h))
      (Contains-cons_cases y x xs is)

  -- where all pass each does
  pub each_passes : (test : X → Bool) (xs : List X) → list_all test xs ≡ true → (x : X) → Contains xs x → test x ≡ true
  each_passes test [] h x is = absurd (Contains-nil x is)
  each_passes test (y ∷ xs) h x is =
      let parts = and_parts (test y) (list_all test xs) h in
      ⊎_elim (λ e. subst (λ (z : X). test z ≡ true) e parts.0) (λ there. each_passes test xs parts.1 x there) (Contains-cons_cases y x xs is)

  -- where each passes all do
  pub all_from : (test : X → Bool) (xs : List X) → ((x : X) → Contains xs x → test x ≡ true) → list_all test xs ≡ true
  all_from test [] h = refl
  all_from test (y ∷ xs) h = and_from (test y) (list_all test xs) (h y (Contains-head y xs)) (all_from test xs (λ x there. h x (Contains-tail y x xs there)))
