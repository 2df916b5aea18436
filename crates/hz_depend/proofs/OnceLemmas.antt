-- Lists in which each number stands once.
use Rattle.std.proofs.Common.{◌≡◌, ℕ, ◌==◌, Bool, true, false, List, [], ◌∷◌, ◌++◌, ◌||◌, get_or, sym, ap, ◌∙◌, subst, ⊎_elim}
use Rattle.std.specs.List.{AllPairs, list_any}
use Rattle.std.proofs.lemmas.Bool.{cases_Bool, eqb-true}
use Rattle.std.proofs.lemmas.List.Folds.{list_any-append, list_any_at}
use Rattle.std.proofs.lemmas.List.Quantifiers.{all_pairs_push}

-- what stands before need not stand again
pub listed_before : (n : ℕ) (kept rest : List ℕ) (x : ℕ) → list_any (λ m. m == x) kept ≡ true → list_any (λ m. m == n) (kept ++ x ∷ rest) ≡ list_any (λ m. m == n) (kept ++ rest)
listed_before n kept rest x e =
    list_any-append (λ m. m == n) kept (x ∷ rest)
    ∙ (⊎_elim
    (λ (t : (x == n) ≡ true). let there : list_any (λ m. m == n) kept ≡ true = subst (λ (k : ℕ). list_any (λ m. m == k) kept ≡ true) (eqb-true x n t) e in
    ap (λ (b : Bool). b || list_any (λ m. m == n) (x ∷ rest)) there ∙ sym (ap (λ (b : Bool). b || list_any (λ m. m == n) rest) there))
    (λ (f : (x == n) ≡ false). ap (λ (b : Bool). list_any (λ m. m == n) kept || (b || list_any (λ m. m == n) rest)) f)
    (cases_Bool (x == n))
    ∙ sym (list_any-append (λ m. m == n) kept rest))

-- what does not stand yet may come after
pub once_next : (kept : List ℕ) (x : ℕ) → AllPairs (λ earlier later. (earlier == later) ≡ false) kept → list_any (λ m. m == x) kept ≡ false → AllPairs (λ earlier later. (earlier == later) ≡ false) (kept ++ x ∷ [])
once_next kept x once none = all_pairs_push (λ earlier later. (earlier == later) ≡ false) kept x once (λ k d lt. ⊎_elim
    (λ (t : (get_or kept k d == x) ≡ true). let clash : false ≡ true = sym none ∙ list_any_at (λ m. m == x) kept k d lt t in absurd (cc))
    (λ (f : (get_or kept k d == x) ≡ false). f)
    (cases_Bool (get_or kept k d == x)))
