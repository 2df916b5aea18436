-- Places of nodes in an order.
use Rattle.std.proofs.Common.{◌≡◌, ℕ, zero, suc, ◌<◌, ◌⊎◌, inl, inr, ⊎_elim, List, [], ◌∷◌, ◌++◌, length, Contains, Some, refl, sym, ap, ◌∙◌, subst, arith}
use Rattle.std.proofs.lemmas.Option.{slice_get_within, get_or_from_slice_get, slice_get-get_or}
use Rattle.hz_check_reservations.specs.Graphs.{At, IsOnce}

pub At_within : (xs : List ℕ) (i x : ℕ) → At xs i x → i < length xs
At_within xs i x h = slice_get_within xs i x h

pub Contains-from_At : (xs : List ℕ) (i x : ℕ) → At xs i x → Contains xs x
Contains-from_At xs i x h = (i, At_within xs i x h, get_or_from_slice_get xs i x x h)

pub At_from_Contains : (xs : List ℕ) (x : ℕ) → Contains xs x → (i : ℕ) × At xs i x
At_from_Contains xs x h = (h.0, slice_get-get_or xs h.0 x h.1 ∙ ap Some h.2)

-- what stands in front keeps its place
pub At-append : (xs ys : List ℕ) (i x : ℕ) → At xs i x → At (xs ++ ys) i x
At-append [] ys i x h = absurd (cc)
At-append (y ∷ xs) ys zero x h = h
At-append (y ∷ xs) ys (suc i) x h = At-append xs ys i x h

-- the last one comes after all others
pub At-last : (xs : List ℕ) (y : ℕ) → At (xs ++ y ∷ []) (length xs) y
At-last [] y = refl
At-last (x ∷ xs) y = At-last xs y

pub At-push_cases : (xs : List ℕ) (y i x : ℕ) → At (xs ++ y ∷ []) i x → At xs i x ⊎ ((i ≡ length xs) × (y ≡ x))
At-push_cases [] y zero x h = inr (refl, cc)
At-push_cases [] y (suc i) x h = absurd (cc)
At-push_cases (z ∷ xs) y zero x h = inl h
At-push_cases (z ∷ xs) y (suc i) x h = ⊎_elim
    (λ (k : At xs i x). inl k)
    (λ (k : (i ≡ length xs) × (y ≡ x)). inr (ap suc k.0, k.1))
    (At-push_cases xs y i x h)

pub once_nil : IsOnce []
once_nil = record { same = λ i j x h k. absurd (omega (arith, At_within [] i x h)) }

pub once_push : (xs : List ℕ) (y : ℕ) → IsOnce xs → (Contains xs y → ⊥) → IsOnce (xs ++ y ∷ [])
once_push xs y once new = record {
  same = λ i j x h k. ⊎_elim
      (λ (a : At xs i x). ⊎_elim
      (λ (b : At xs j x). once.same i j x a b)
      (λ (b : (j ≡ length xs) × (y ≡ x)). absurd (new (subst (Contains xs) (sym b.1) (Contains-from_At xs i x a))))
      (At-push_cases xs y j x k))
      (λ (a : (i ≡ length xs) × (y ≡ x)). ⊎_elim
      (λ (b : At xs j x). absurd (new (subst (Contains xs) (sym a.1) (Contains-from_At xs j x b))))
      (λ (b : (j ≡ length xs) × (y ≡ x)). a.0 ∙ sym b.0)
      (At-push_cases xs y j x k))
      (At-push_cases xs y i x h);
}
