-- Lists of what is left: without one item, and how long an order is.
use Rattle.std.proofs.Common.{◌≡◌, ℕ, suc, ◌<◌, ◌≤◌, ◌⊎◌, inl, inr, ⊎_elim, List, [], ◌∷◌, ◌++◌, length, Contains, refl, sym, ◌∙◌, subst, append_assoc, arith}
use Rattle.std.specs.List.{range_with_len}
use Rattle.std.proofs.lemmas.List.Elements.{Contains-append_left, Contains-append_right}
use Rattle.std.proofs.lemmas.List.FromFn.{length-range_with_len}
use Rattle.hz_base_model.proofs.Elements.{Contains-nil, Contains-head, Contains-tail, Contains-cons_cases, Contains-range}
use Rattle.hz_block_model.specs.Dependences.Orders.{IsOrder}

-- A list without one item.
pub record IsWithout (xs : List ℕ) (x : ℕ) : Type 0 where
  pub rest : List ℕ
  pub shorter : suc (length rest) ≡ length xs
  pub others : (j : ℕ) → Contains xs j → (x ≡ j) ⊎ Contains rest j

pub without : (xs : List ℕ) (x : ℕ) → Contains xs x → IsWithout xs x
without [] x there = absurd (Contains-nil x there)
without (y ∷ xs) x there = ⊎_elim
    (λ (same : y ≡ x). record { rest = xs; shorter = refl; others = λ j h. ⊎_elim (λ (e : y ≡ j). inl (sym same ∙ e)) (λ (m : Contains xs j). inr m) (Contains-cons_cases y j xs h) })
    (λ (m : Contains xs x). let w = without xs x m in let less = w.shorter in
    record {
      rest = y ∷ w.rest;
      shorter = omega arith;
      others = λ j h. ⊎_elim
          (λ (e : y ≡ j). inr (subst (λ (k : ℕ). Contains (k ∷ w.rest) j) (sym e) (Contains-head j w.rest)))
          (λ (n : Contains xs j). ⊎_elim (λ (e : x ≡ j). inl e) (λ (k : Contains w.rest j). inr (Contains-tail y j w.rest k)) (w.others j n))
          (Contains-cons_cases y j xs h);
    })
    (Contains-cons_cases y x xs there)

-- ---- orders

module _ (n : ℕ) (order : List ℕ) (is : IsOrder n order) where
  -- what is left of an order is at most as long as a list of all that is left
  rest_length : (before rest left : List ℕ) → order ≡ before ++ rest → ((i : ℕ) → i < n → Contains before i ⊎ Contains left i) → length rest ≤ length left
  rest_length before [] left e each = omega arith
  rest_length before (x ∷ rest) left e each =
      let low = is.only x (subst (λ (xs : List ℕ). Contains xs x) (sym e) (Contains-append_right before (x ∷ rest) x (Contains-head x rest))) in
      let w = without left x (⊎_elim (λ (there : Contains before x). absurd (is.once before rest x e there)) (λ (m : Contains left x). m) (each x low)) in
      let fewer = rest_length (before ++ x ∷ []) rest w.rest (e ∙ sym (append_assoc before (x ∷ []) rest)) (λ i within. ⊎_elim
      (λ (there : Contains before i). inl (Contains-append_left before (x ∷ []) i there))
      (λ (m : Contains left i). ⊎_elim
      (λ (same : x ≡ i). inl (Contains-append_right before (x ∷ []) i (subst (λ (k : ℕ). Contains (k ∷ []) i) (sym same) (Contains-head i []))))
      (λ (k : Contains w.rest i). inr k)
      (w.others i m))
      (each i within)) in
      omega (arith, fewer, w.shorter)

  -- an order of so many places is not longer
  pub order_length : length order ≤ n
  order_length = omega (arith, rest_length [] order (range_with_len 0 n) refl (λ i within. inr (Contains-range n i within)), length-range_with_len 0 n)
