-- Sorted lists of different items are one where they have the same items.
use Rattle.std.proofs.Common.{Ordering, ◌≡◌, ◌≢◌, suc, ◌+◌, false, List, [], ◌∷◌, get_or, Contains, refl, sym, ap, ◌∙◌, subst, arith}
use Rattle.std.specs.List.{All, AllPairs}
use Rattle.std.specs.List.Sorted.{IsSorted}
use Rattle.std.specs.Cmp.{IsTotalOrder}
use Rattle.std.specs.FinMap.{IsAntisymmetric}
use Rattle.std.specs.Ordering.{is_lt, ordering_reverse}
use Rattle.std.specs.declared.cmp.Ordering.TheVariants.{Less, Equal, Greater}
use Rattle.std.proofs.lemmas.List.Kept.{AllPairs-cons}
use Rattle.std.proofs.lemmas.List.Elements.{All-cons, All-nil}
use Rattle.hz_base_model.proofs.Ascending.{AllPairs-head, AllPairs-tail, same_from_ascending}

module _ {X : Type 0} (cmp : X → X → Ordering) (total : IsTotalOrder cmp) (tells : IsAntisymmetric cmp) where
  abbrev Below : X → X → Type 0
  Below x y = cmp x y ≡ Less

  -- of two different items the one that is not below the other is above it
  below_next : (x y : X) → x ≢ y → is_lt (cmp y x) ≡ false → Below x y
  below_next x y differ up = by_order (cmp x y) refl (cmp y x) refl
    where
      by_order : (o : Ordering) → cmp x y ≡ o → (p : Ordering) → cmp y x ≡ p → Below x y
      by_order Less e p e' = e
      by_order Equal e p e' = absurd (differ (tells x y e))
      by_order Greater e Less e' = let no = ap is_lt e' in absurd (cc)
      by_order Greater e Equal e' = absurd (differ (sym (tells y x e')))
      by_order Greater e Greater e' = let turn = total.antisymm x y ∙ ap ordering_reverse e' in absurd (cc)

  not_both_below : (x y : X) → Below x y → Below y x → ⊥
  not_both_below x y e e' = let turn = total.antisymm x y ∙ ap ordering_reverse e' in cc

  sorted_tail : (x : X) (xs : List X) → IsSorted cmp (x ∷ xs) → IsSorted cmp xs
  sorted_tail x xs sorted k d low inside =
      let next : suc k + 1 ≡ suc (k + 1) = omega arith in
      subst (λ n. is_lt (cmp (get_or (x ∷ xs) n d) (get_or xs k d)) ≡ false) next (sorted (suc k) d (omega arith) (omega (arith, inside)))

  -- each item of a sorted list of different items is below all later ones
  rises : (xs : List X) → IsSorted cmp xs → AllPairs (λ x y. x ≢ y) xs → AllPairs Below xs
  rises [] sorted different = λ i j d less inside. absurd (omega (arith, inside))
  rises (x ∷ []) sorted different = AllPairs-cons Below x [] (All-nil (Below x)) (λ i j d less inside. absurd (omega (arith, inside)))
  rises (x ∷ y ∷ ys) sorted different =
      let rest = rises (y ∷ ys) (sorted_tail x (y ∷ ys) sorted) (AllPairs-tail (λ a b. a ≢ b) x (y ∷ ys) different) in
      let next : Below x y = below_next x y (AllPairs-head (λ a b. a ≢ b) x (y ∷ ys) different 0 x (omega arith)) (sorted 0 x (omega arith) (omega arith)) in
      let later : All (Below y) ys = AllPairs-head Below y ys rest in
      AllPairs-cons Below x (y ∷ ys) (All-cons (Below x) y ys next (λ k d inside. total.trans x y (get_or ys k d) next (later k d inside))) rest

  pub sorted_one : (xs ys : List X) → IsSorted cmp xs → IsSorted cmp ys → AllPairs (λ x y. x ≢ y) xs → AllPairs (λ x y. x ≢ y) ys → ((x : X) → Contains xs x → Contains ys x) → ((x : X) → Contains ys x → Contains xs x) → xs ≡ ys
  sorted_one xs ys sorted sorted' different different' there back =
      same_from_ascending Below not_both_below xs ys (rises xs sorted different) (rises ys sorted' different') there back
