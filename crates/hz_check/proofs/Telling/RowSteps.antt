-- Numbers of which each is taken once.
use Rattle.std.proofs.Common.{◌≡◌, ℕ, ◌==◌, List, [], ◌∷◌, ◌++◌, filter, Bool, true, false, ◌||◌, refl, sym, ap, ◌∙◌, subst, cond, ⊎_elim}
use Rattle.std.proofs.lemmas.Bool.{cases_Bool, eqb-true}
use Rattle.std.specs.List.{list_any}
use Rattle.hz_check.specs.Names.First.{first_of}

-- what does not pass may be left out
left_out : (p : ℕ → Bool) (kept rest : List ℕ) (x : ℕ) → p x ≡ false → filter p (kept ++ x ∷ rest) ≡ filter p (kept ++ rest)
left_out p [] rest x fails = ap (λ (b : Bool). cond b (x ∷ filter p rest) (filter p rest)) fails
left_out p (k ∷ kept) rest x fails = ap (λ (ys : List ℕ). cond (p k) (k ∷ ys) ys) (left_out p kept rest x fails)

passes_first : (k : ℕ) (xs ys : List ℕ) (b : Bool) → (b ≡ false → first_of xs ≡ first_of ys) → first_of (cond b (k ∷ xs) xs) ≡ first_of (cond b (k ∷ ys) ys)
passes_first k xs ys true same = refl
passes_first k xs ys false same = same refl

-- what stands before need not stand again
pub stands_before : (p : ℕ → Bool) (kept rest : List ℕ) (x : ℕ) → list_any (λ m. m == x) kept ≡ true → first_of (filter p (kept ++ x ∷ rest)) ≡ first_of (filter p (kept ++ rest))
stands_before p [] rest x e = absurd (cc)
stands_before p (k ∷ kept) rest x e = passes_first k (filter p (kept ++ x ∷ rest)) (filter p (kept ++ rest)) (p k) (λ (fails : p k ≡ false). ⊎_elim
    (λ (t : (k == x) ≡ true). ap first_of (left_out p kept rest x (subst (λ (n : ℕ). p n ≡ false) (eqb-true k x t) fails)))
    (λ (f : (k == x) ≡ false). stands_before p kept rest x (sym (ap (λ (b : Bool). b || list_any (λ m. m == x) kept) f) ∙ e))
    (cases_Bool (k == x)))
