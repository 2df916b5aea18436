-- Lists that are joined over numbers in a row.
use Rattle.std.proofs.Common.{◌≡◌, ℕ, zero, suc, ◌+◌, ◌<◌, ◌≤◌, ◌==◌, Bool, true, false, List, [], ◌∷◌, ◌++◌, map, All, cond, refl, sym, ap, ◌∙◌, append_assoc, arith}
use Rattle.std.specs.List.{filter, flat_map, range_with_len}
use Rattle.std.proofs.lemmas.Bool.{eqb-true, eq-eqb}
use Rattle.std.proofs.lemmas.List.Elements.{All-head, All-tail}

module _ {A : Type 0} where
  -- over more numbers
  pub range-more : (f : ℕ → List A) (a n m : ℕ) → flat_map f (range_with_len a (n + m)) ≡ flat_map f (range_with_len a n) ++ flat_map f (range_with_len (a + n) m)
  range-more f a zero m =
      let same : 0 + m ≡ m = omega arith in
      let start : a ≡ a + 0 = omega arith in
      ap (λ (k : ℕ). flat_map f (range_with_len a k)) same ∙ ap (λ (b : ℕ). flat_map f (range_with_len b m)) start
  range-more f a (suc n) m =
      let same : suc n + m ≡ suc (n + m) = omega arith in
      let start : (a + 1) + n ≡ a + suc n = omega arith in
      ap (λ (k : ℕ). flat_map f (range_with_len a k)) same
      ∙ (ap (λ (xs : List A). f a ++ xs) (range-more f (a + 1) n m ∙ ap (λ (b : ℕ). flat_map f (range_with_len (a + 1) n) ++ flat_map f (range_with_len b m)) start)
      ∙ sym (append_assoc (f a) (flat_map f (range_with_len (a + 1) n)) (flat_map f (range_with_len (a + suc n) m))))

  -- from a later number on
  pub range-shift : (f : ℕ → List A) (a b n : ℕ) → flat_map f (range_with_len (a + b) n) ≡ flat_map (λ k. f (k + b)) (range_with_len a n)
  range-shift f a b zero = refl
  range-shift f a b (suc n) =
      let next : (a + b) + 1 ≡ (a + 1) + b = omega arith in
      ap (λ (xs : List A). f (a + b) ++ xs) (ap (λ (k : ℕ). flat_map f (range_with_len k n)) next ∙ range-shift f (a + 1) b n)

  pub range-agree : (f g : ℕ → List A) (a n : ℕ) → ((k : ℕ) → a ≤ k → k < a + n → f k ≡ g k) → flat_map f (range_with_len a n) ≡ flat_map g (range_with_len a n)
  range-agree f g a zero same = refl
  range-agree f g a (suc n) same =
      let first = same a (omega arith) (omega arith) in
      let rest = range-agree f g (a + 1) n (λ k low high. same k (omega arith) (omega arith)) in
      λ i. first i ++ rest i

module _ {X : Type 0} where
  pub filter_none : (test : X → Bool) (xs : List X) → All (λ x. test x ≡ false) xs → filter test xs ≡ []
  filter_none test [] all = refl
  filter_none test (x ∷ xs) all = go (test x) (All-head (λ x. test x ≡ false) x xs all) (filter_none test xs (All-tail (λ x. test x ≡ false) x xs all))
    where
      go : (b : Bool) → b ≡ false → filter test xs ≡ [] → cond b (x ∷ filter test xs) (filter test xs) ≡ []
      go true e rest = absurd (cc)
      go false e rest = rest

module _ {X Y Z : Type 0} where
  pub map-flat_map : (f : Y → Z) (h : X → List Y) (xs : List X) → map f (flat_map h xs) ≡ flat_map (λ x. map f (h x)) xs
  map-flat_map f h [] = refl
  map-flat_map f h (x ∷ xs) = map_both (h x) (flat_map h xs) ∙ ap (λ (zs : List Z). map f (h x) ++ zs) (map-flat_map f h xs)
    where
      map_both : (us vs : List Y) → map f (us ++ vs) ≡ map f us ++ map f vs
      map_both [] vs = refl
      map_both (u ∷ us) vs = ap (λ (zs : List Z). f u ∷ zs) (map_both us vs)

-- equal numbers stay equal by a further summand
pub same_test : (a b c d : ℕ) → (a ≡ b → c ≡ d) → (c ≡ d → a ≡ b) → (a == b) ≡ (c == d)
same_test a b c d there back = go (a == b) (c == d) refl refl
  where
    go : (p q : Bool) → (a == b) ≡ p → (c == d) ≡ q → p ≡ q
    go true true e f = refl
    go true false e f = absurd (let t = eq-eqb c d (there (eqb-true a b e)) in cc)
    go false true e f = absurd (let t = eq-eqb a b (back (eqb-true c d f)) in cc)
    go false false e f = refl
