-- What lists that are joined over numbers in a row contain, and when each element goes before all later ones.
use Rattle.std.proofs.Common.{◌≡◌, ℕ, zero, suc, ◌+◌, ◌<◌, ◌≤◌, List, [], ◌∷◌, ◌++◌, All, Contains, ⊎_elim, refl, sym, ap, subst, arith}
use Rattle.std.specs.List.{flat_map, range_with_len, AllPairs}
use Rattle.std.proofs.lemmas.Bool.{cases_lt, cases_eq}
use Rattle.std.proofs.lemmas.List.Elements.{All-nil, All-cons, All-contains, Contains-append_left, Contains-append_right, Contains-append_cases}
use Rattle.std.proofs.lemmas.List.Kept.{AllPairs-cons}
use Rattle.hz_base_model.proofs.Elements.{Contains-nil, Contains-head, Contains-tail, Contains-cons_cases}
use Rattle.hz_base_model.proofs.Ascending.{AllPairs-head, AllPairs-tail, AllPairs-append}

module _ {A : Type 0} where
  pub in_range : (f : ℕ → List A) (a n k : ℕ) (y : A) → a ≤ k → k < a + n → Contains (f k) y → Contains (flat_map f (range_with_len a n)) y
  in_range f a zero k y low high there = absurd (omega arith)
  in_range f a (suc n) k y low high there = ⊎_elim
      (λ (e : a ≡ k). Contains-append_left (f a) (flat_map f (range_with_len (a + 1) n)) y (subst (λ (i : ℕ). Contains (f i) y) (sym e) there))
      (λ (ne : a ≡ k → ⊥). Contains-append_right (f a) (flat_map f (range_with_len (a + 1) n)) y (in_range f (a + 1) n k y (less a k low ne) (omega arith) there))
      (cases_eq a k)
    where
      less : (a k : ℕ) → a ≤ k → (a ≡ k → ⊥) → a + 1 ≤ k
      less a k le ne = ⊎_elim (λ (lt : a < k). omega arith) (λ (ge : k ≤ a). absurd (ne (omega arith))) (cases_lt a k)

  -- The number of the list that holds an element.
  pub record InRange (f : ℕ → List A) (a n : ℕ) (y : A) : Type 0 where
    pub number : ℕ
    pub low : a ≤ number
    pub high : number < a + n
    pub there : Contains (f number) y

  pub from_range : (f : ℕ → List A) (a n : ℕ) (y : A) → Contains (flat_map f (range_with_len a n)) y → InRange f a n y
  from_range f a zero y c = absurd (Contains-nil y c)
  from_range f a (suc n) y c = ⊎_elim
      (λ (here : Contains (f a) y). record { number = a; low = omega arith; high = omega arith; there = here })
      (λ (more : Contains (flat_map f (range_with_len (a + 1) n)) y). beyond (from_range f (a + 1) n y more))
      (Contains-append_cases (f a) (flat_map f (range_with_len (a + 1) n)) y c)
    where
      beyond : InRange f (a + 1) n y → InRange f a (suc n) y
      beyond r = record { number = r.number; low = let h = r.low in omega arith; high = let h = r.high in omega arith; there = r.there }

  module _ (R : A → A → Type 0) where
    pub pairs_range : (f : ℕ → List A) (a n : ℕ) → ((k : ℕ) → a ≤ k → k < a + n → AllPairs R (f k))
        → ((k l : ℕ) → a ≤ k → k < l → l < a + n → (x y : A) → Contains (f k) x → Contains (f l) y → R x y) → AllPairs R (flat_map f (range_with_len a n))
    pairs_range f a zero each across = λ i j d lt inside. absurd (omega arith)
    pairs_range f a (suc n) each across = AllPairs-append R (f a) (flat_map f (range_with_len (a + 1) n)) (each a (omega arith) (omega arith))
        (pairs_range f (a + 1) n (λ k low high. each k (omega arith) (omega arith)) (λ k l low lt high x y c e. across k l (omega arith) lt (omega arith) x y c e))
        (λ x y c e. let r = from_range f (a + 1) n y e in let low = r.low in let high = r.high in across a r.number (omega arith) (omega arith) (omega arith) x y c r.there)

    -- an element goes before all later ones
    pub pair_after : (before after : List A) (x y : A) → AllPairs R (before ++ x ∷ after) → Contains after y → R x y
    pair_after [] after x y pairs c = All-contains (R x) after y (AllPairs-head R x after pairs) c
    pair_after (b ∷ before) after x y pairs c = pair_after before after x y (AllPairs-tail R b (before ++ x ∷ after) pairs) c

    pub pair_before : (before after : List A) (x y : A) → AllPairs R (before ++ x ∷ after) → Contains before y → R y x
    pair_before [] after x y pairs c = absurd (Contains-nil y c)
    pair_before (b ∷ before) after x y pairs c = ⊎_elim
        (λ (e : b ≡ y). subst (λ (z : A). R z x) e (All-contains (R b) (before ++ x ∷ after) x (AllPairs-head R b (before ++ x ∷ after) pairs) (Contains-append_right before (x ∷ after) x (Contains-head x after))))
        (λ (m : Contains before y). pair_before before after x y (AllPairs-tail R b (before ++ x ∷ after) pairs) m)
        (Contains-cons_cases b y before c)

    -- where each element goes past those before it
    pub pairs_from_splits : (xs : List A) → ((before after : List A) (x y : A) → xs ≡ before ++ x ∷ after → Contains before y → R y x) → AllPairs R xs
    pairs_from_splits [] splits = λ i j d lt inside. absurd (omega arith)
    pairs_from_splits (z ∷ xs) splits = AllPairs-cons R z xs
        (each xs (λ before after y e. splits (z ∷ before) after y z (ap (λ (ys : List A). z ∷ ys) e) (Contains-head z before)))
        (pairs_from_splits xs (λ before after x y e c. splits (z ∷ before) after x y (ap (λ (ys : List A). z ∷ ys) e) (Contains-tail z y before c)))
      where
        each : (ys : List A) → ((before after : List A) (y : A) → ys ≡ before ++ y ∷ after → R z y) → All (R z) ys
        each [] h = All-nil (R z)
        each (y ∷ ys) h = All-cons (R z) y ys (h [] ys y refl) (each ys (λ before after w e. h (y ∷ before) after w (ap (λ (vs : List A). y ∷ vs) e)))
