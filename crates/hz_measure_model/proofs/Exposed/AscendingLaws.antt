-- Numbers in ascending order, each once.
use Rattle.std.proofs.Common.{◌≡◌, ℕ, ◌<◌, Bool, true, false, cond, ◌⊎◌, inl, inr, ⊎_elim, List, [], ◌∷◌, Contains, refl, sym, arith}
use Rattle.std.specs.Prelude.{nat_lt}
use Rattle.std.proofs.lemmas.Bool.{ltb-true, ltb-false}
use Rattle.hz_base_model.proofs.Elements.{Contains-nil, Contains-head, Contains-tail, Contains-cons_cases}
use Rattle.hz_measure_model.specs.Exposed.Exposed.{with_number, ascending}

-- the number and the others, and no more
pub with_cases : (n m : ℕ) (ns : List ℕ) → Contains (with_number n ns) m → (n ≡ m) ⊎ Contains ns m
with_cases n m [] c = ⊎_elim (λ (e : n ≡ m). inl e) (λ (k : Contains [] m). inr k) (Contains-cons_cases n m [] c)
with_cases n m (a ∷ ns) c = go (nat_lt n a) (nat_lt a n) c (with_cases n m ns)
  where
    go : (b d : Bool) → Contains (cond b (n ∷ a ∷ ns) (cond d (a ∷ with_number n ns) (a ∷ ns))) m → (Contains (with_number n ns) m → (n ≡ m) ⊎ Contains ns m) → (n ≡ m) ⊎ Contains (a ∷ ns) m
    go true d h further = Contains-cons_cases n m (a ∷ ns) h
    go false true h further = ⊎_elim
        (λ (e : a ≡ m). inr (0, omega arith, e))
        (λ (k : Contains (with_number n ns) m). ⊎_elim (λ (e : n ≡ m). inl e) (λ (j : Contains ns m). inr (Contains-tail a m ns j)) (further k))
        (Contains-cons_cases a m (with_number n ns) h)
    go false false h further = inr h

pub with_others : (n m : ℕ) (ns : List ℕ) → Contains ns m → Contains (with_number n ns) m
with_others n m [] c = absurd (Contains-nil m c)
with_others n m (a ∷ ns) c = go (nat_lt n a) (nat_lt a n) (with_others n m ns)
  where
    go : (b d : Bool) → (Contains ns m → Contains (with_number n ns) m) → Contains (cond b (n ∷ a ∷ ns) (cond d (a ∷ with_number n ns) (a ∷ ns))) m
    go true d further = Contains-tail n m (a ∷ ns) c
    go false true further = ⊎_elim
        (λ (e : a ≡ m). (0, omega arith, e))
        (λ (k : Contains ns m). Contains-tail a m (with_number n ns) (further k))
        (Contains-cons_cases a m ns c)
    go false false further = c

pub with_it : (n : ℕ) (ns : List ℕ) → Contains (with_number n ns) n
with_it n [] = Contains-head n []
with_it n (a ∷ ns) = go (nat_lt n a) (nat_lt a n) refl refl (with_it n ns)
  where
    go : (b d : Bool) → nat_lt n a ≡ b → nat_lt a n ≡ d → Contains (with_number n ns) n → Contains (cond b (n ∷ a ∷ ns) (cond d (a ∷ with_number n ns) (a ∷ ns))) n
    go true d is at further = Contains-head n (a ∷ ns)
    go false true is at further = Contains-tail a n (with_number n ns) further
    go false false is at further = let low = ltb-false n a is in let high = ltb-false a n at in (0, omega arith, omega (arith, low, high))

abbrev pub Below : ℕ → List ℕ → Type 0
Below a ns = (m : ℕ) → Contains ns m → a < m

-- each number stands below all after it
abbrev pub Ascends : List ℕ → Type 0
Ascends [] = Unit {0}
Ascends (a ∷ ns) = Below a ns × Ascends ns

pub with_ascends : (n : ℕ) (ns : List ℕ) → Ascends ns → Ascends (with_number n ns)
with_ascends n [] h = ((λ m c. absurd (Contains-nil m c)), tt)
with_ascends n (a ∷ ns) h = go (nat_lt n a) (nat_lt a n) refl refl (with_ascends n ns h.1)
  where
    go : (b d : Bool) → nat_lt n a ≡ b → nat_lt a n ≡ d → Ascends (with_number n ns) → Ascends (cond b (n ∷ a ∷ ns) (cond d (a ∷ with_number n ns) (a ∷ ns)))
    go true d is at further =
        let low = ltb-true n a is in
        ((λ m c. ⊎_elim (λ (e : a ≡ m). omega (arith, low, e)) (λ (k : Contains ns m). let more = h.0 m k in omega (arith, low, more)) (Contains-cons_cases a m ns c)), h)
    go false true is at further =
        let low = ltb-true a n at in
        ((λ m c. ⊎_elim (λ (e : n ≡ m). omega (arith, low, e)) (λ (k : Contains ns m). h.0 m k) (with_cases n m ns c)), further)
    go false false is at further = h

pub ascending_ascends : (ns : List ℕ) → Ascends (ascending ns)
ascending_ascends [] = tt
ascending_ascends (n ∷ ns) = with_ascends n (ascending ns) (ascending_ascends ns)

pub in_ascending : (ns : List ℕ) (m : ℕ) → Contains ns m → Contains (ascending ns) m
in_ascending [] m c = c
in_ascending (n ∷ ns) m c = ⊎_elim
    (λ (e : n ≡ m). rw (sym e) (with_it n (ascending ns)))
    (λ (k : Contains ns m). with_others n m (ascending ns) (in_ascending ns m k))
    (Contains-cons_cases n m ns c)

pub from_ascending : (ns : List ℕ) (m : ℕ) → Contains (ascending ns) m → Contains ns m
from_ascending [] m c = c
from_ascending (n ∷ ns) m c = ⊎_elim
    (λ (e : n ≡ m). (0, omega arith, e))
    (λ (k : Contains (ascending ns) m). Contains-tail n m ns (from_ascending ns m k))
    (with_cases n m (ascending ns) c)

-- lists that ascend and contain the same are equal
pub one_ascending : (xs ys : List ℕ) → Ascends xs → Ascends ys → ((m : ℕ) → Contains xs m → Contains ys m) → ((m : ℕ) → Contains ys m → Contains xs m) → xs ≡ ys
one_ascending [] [] a b to from = refl
one_ascending [] (y ∷ ys) a b to from = absurd (Contains-nil y (from y (Contains-head y ys)))
one_ascending (x ∷ xs) [] a b to from = absurd (Contains-nil x (to x (Contains-head x xs)))
one_ascending (x ∷ xs) (y ∷ ys) a b to from = join same (one_ascending xs ys a.1 b.1 (λ m c. inner m c) (λ m c. outer m c))
  where
    same : x ≡ y
    same = ⊎_elim
        (λ (e : y ≡ x). sym e)
        (λ (k : Contains ys x). ⊎_elim (λ (e : x ≡ y). e) (λ (j : Contains xs y). let p = b.0 x k in let q = a.0 y j in absurd (omega (arith, p, q))) (Contains-cons_cases x y xs (from y (Contains-head y ys))))
        (Contains-cons_cases y x ys (to x (Contains-head x xs)))

    inner : (m : ℕ) → Contains xs m → Contains ys m
    inner m c = ⊎_elim (λ (e : y ≡ m). let p = a.0 m c in absurd (omega (arith, p, e, same))) (λ (k : Contains ys m). k) (Contains-cons_cases y m ys (to m (Contains-tail x m xs c)))

    outer : (m : ℕ) → Contains ys m → Contains xs m
    outer m c = ⊎_elim (λ (e : x ≡ m). let p = b.0 m c in absurd (omega (arith, p, e, same))) (λ (k : Contains xs m). k) (Contains-cons_cases x m xs (from m (Contains-tail y m ys c)))

    join : x ≡ y → xs ≡ ys → x ∷ xs ≡ y ∷ ys
    join e f = cc
