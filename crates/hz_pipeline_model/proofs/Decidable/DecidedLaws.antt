-- What can be reported: that it holds, or that it does not.
use Rattle.std.proofs.Common.{◌≡◌, ◌≢◌, ℕ, ◌<◌, ◌≤◌, ◌==◌, ◌⊎◌, inl, inr, ⊎_elim, true, false, List, [], ◌∷◌, Contains, refl, sym, subst, arith}
use Rattle.std.proofs.lemmas.Bool.{cases_lt}
use Rattle.std.proofs.lemmas.Bool.Decides.{eqb_tells}
use Rattle.hz_base_model.proofs.Elements.{Contains-nil, Contains-head, Contains-tail, Contains-cons_cases}

-- it holds, or it does not
abbrev pub IsDecided : Type 0 → Type 0
IsDecided A = A ⊎ (A → ⊥)

pub same_reported : (a b : ℕ) → IsDecided (a ≡ b)
same_reported a b = ⊎_elim
    (λ (same : ((a == b) ≡ true) × (a ≡ b)). inl same.1)
    (λ (other : ((a == b) ≡ false) × (a ≢ b)). inr other.1)
    (eqb_tells a b)

pub less_reported : (a b : ℕ) → IsDecided (a < b)
less_reported a b = ⊎_elim (λ (lt : a < b). inl lt) (λ (le : b ≤ a). inr (λ lt. omega (arith, le, lt))) (cases_lt a b)

pub low_reported : (a b : ℕ) → IsDecided (a ≤ b)
low_reported a b = ⊎_elim (λ (lt : b < a). inr (λ le. omega (arith, le, lt))) (λ (le : a ≤ b). inl le) (cases_lt b a)

module _ {X : Type 0} (P : X → Type 0) (reported : (x : X) → IsDecided (P x)) where
  -- of each item of a list
  pub each_reported : (xs : List X) → IsDecided ((x : X) → Contains xs x → P x)
  each_reported [] = inl (λ x there. absurd (Contains-nil x there))
  each_reported (x ∷ xs) = ⊎_elim
      (λ (here : P x). ⊎_elim
      (λ (all : (y : X) → Contains xs y → P y). inl (λ y there. ⊎_elim (λ (same : x ≡ y). subst P same here) (λ (m : Contains xs y). all y m) (Contains-cons_cases x y xs there)))
      (λ (none : ((y : X) → Contains xs y → P y) → ⊥). inr (λ all. none (λ y m. all y (Contains-tail x y xs m))))
      (each_reported xs))
      (λ (none : P x → ⊥). inr (λ all. none (all x (Contains-head x xs))))
      (reported x)

  -- of some item of a list
  pub some_reported : (xs : List X) → ((x : X) × Contains xs x × P x) ⊎ ((x : X) → Contains xs x → P x → ⊥)
  some_reported [] = inr (λ x there is. Contains-nil x there)
  some_reported (x ∷ xs) = ⊎_elim
      (λ (here : P x). inl (x, Contains-head x xs, here))
      (λ (none : P x → ⊥). ⊎_elim
      (λ (found : (y : X) × Contains xs y × P y). inl (found.0, Contains-tail x found.0 xs found.1, found.2))
      (λ (no : (y : X) → Contains xs y → P y → ⊥). inr (λ y there is. ⊎_elim (λ (same : x ≡ y). none (subst P (sym same) is)) (λ (m : Contains xs y). no y m is) (Contains-cons_cases x y xs there)))
      (some_reported xs))
      (reported x)

-- whether a number is in a list
pub contained_reported : (xs : List ℕ) (j : ℕ) → IsDecided (Contains xs j)
contained_reported xs j = ⊎_elim
    (λ (found : (x : ℕ) × Contains xs x × (x ≡ j)). inl (subst (Contains xs) found.2 found.1))
    (λ (none : (x : ℕ) → Contains xs x → x ≡ j → ⊥). inr (λ there. none j there refl))
    (some_reported (λ x. x ≡ j) (λ x. same_reported x j) xs)
