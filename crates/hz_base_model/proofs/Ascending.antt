-- Lists in which each element stands before all later ones.
use Rattle.std.proofs.Common.{◌≡◌, ℕ, ◌<◌, zero, suc, ⊎_elim, List, [], ◌∷◌, ◌++◌, length, get_or, map, All, Contains, refl, sym, ap, ◌∙◌, subst, arith}
use Rattle.std.specs.List.{range_with_len, AllPairs}
use Rattle.std.proofs.lemmas.List.{length-map, get_or-map}
use Rattle.std.proofs.lemmas.List.Elements.{All-append, All-contains, Contains-get_or}
use Rattle.std.proofs.lemmas.List.Kept.{AllPairs-cons}
use Rattle.std.proofs.lemmas.List.FromFn.{length-range_with_len, get_or-range_with_len}
use Rattle.hz_base_model.proofs.Elements.{Contains-nil, Contains-head, Contains-tail, Contains-cons_cases}

module _ {X : Type 0} (R : X → X → Type 0) where
  pub AllPairs-head : (x : X) (xs : List X) → AllPairs R (x ∷ xs) → All (R x) xs
  AllPairs-head x xs h k d within = h zero (suc k) d (omega arith) (omega arith)

  pub AllPairs-tail : (x : X) (xs : List X) → AllPairs R (x ∷ xs) → AllPairs R xs
  AllPairs-tail x xs h i j d lt within = h (suc i) (suc j) d (omega arith) (omega arith)

  -- each element of xs stands before each of ys
  pub AllPairs-append : (xs ys : List X) → AllPairs R xs → AllPairs R ys → ((x y : X) → Contains xs x → Contains ys y → R x y) → AllPairs R (xs ++ ys)
  AllPairs-append [] ys h k across = k
  AllPairs-append (x ∷ xs) ys h k across =
      let later : All (R x) ys = λ i d within. across x (get_or ys i d) (Contains-head x xs) (Contains-get_or ys i d within) in
      AllPairs-cons R x (xs ++ ys)
      (All-append (R x) xs ys (AllPairs-head x xs h) later)
      (AllPairs-append xs ys (AllPairs-tail x xs h) k (λ a b m n. across a b (Contains-tail x a xs m) n))

  module _ (asymmetric : (x y : X) → R x y → R y x → ⊥) where
    heads : (x y : X) (xs ys : List X) → AllPairs R (x ∷ xs) → AllPairs R (y ∷ ys) → Contains (y ∷ ys) x → Contains (x ∷ xs) y → x ≡ y
    heads x y xs ys h k m n =
        ⊎_elim
        (λ (e : y ≡ x). sym e)
        (λ (m' : Contains ys x). ⊎_elim
        (λ (e : x ≡ y). e)
        (λ (n' : Contains xs y). absurd (asymmetric x y (All-contains (R x) xs y (AllPairs-head x xs h) n') (All-contains (R y) ys x (AllPairs-head y ys k) m')))
        (Contains-cons_cases x y xs n))
        (Contains-cons_cases y x ys m)

    -- what is in a list's tail is in the other's too, where their heads are equal
    tails : (x : X) (xs ys : List X) → AllPairs R (x ∷ xs) → ((z : X) → Contains (x ∷ xs) z → Contains (x ∷ ys) z) → (z : X) → Contains xs z → Contains ys z
    tails x xs ys h from z m =
        let above = All-contains (R x) xs z (AllPairs-head x xs h) m in
        ⊎_elim
        (λ (e : x ≡ z). let same : R x x = subst (λ (w : X). R x w) (sym e) above in absurd (asymmetric x x same same))
        (λ (n : Contains ys z). n)
        (Contains-cons_cases x z ys (from z (Contains-tail x z xs m)))

    -- ascending lists with the same elements are equal
    pub same_from_ascending : (xs ys : List X) → AllPairs R xs → AllPairs R ys → ((x : X) → Contains xs x → Contains ys x) → ((x : X) → Contains ys x → Contains xs x) → xs ≡ ys
    same_from_ascending [] [] h k there back = refl
    same_from_ascending [] (y ∷ ys) h k there back = absurd (Contains-nil y (back y (Contains-head y ys)))
    same_from_ascending (x ∷ xs) [] h k there back = absurd (Contains-nil x (there x (Contains-head x xs)))
    same_from_ascending (x ∷ xs) (y ∷ ys) h k there back =
        let e = heads x y xs ys h k (there x (Contains-head x xs)) (back y (Contains-head y ys)) in
        let k' : AllPairs R (x ∷ ys) = subst (λ (w : X). AllPairs R (w ∷ ys)) (sym e) k in
        let there' = λ (z : X) (m : Contains (x ∷ xs) z). subst (λ (w : X). Contains (w ∷ ys) z) (sym e) (there z m) in
        let back' = λ (z : X) (m : Contains (x ∷ ys) z). back z (subst (λ (w : X). Contains (w ∷ ys) z) e m) in
        let rest = same_from_ascending xs ys (AllPairs-tail x xs h) (AllPairs-tail x ys k') (tails x xs ys h there') (tails x ys xs k' back') in
        ap (λ (w : X). w ∷ xs) e ∙ ap (λ (ws : List X). y ∷ ws) rest

pub AllPairs-map : {X Y : Type 0} (R : X → X → Type 0) (S : Y → Y → Type 0) (f : X → Y) → ((a b : X) → R a b → S (f a) (f b)) → (d : X) (xs : List X) → AllPairs R xs → AllPairs S (map f xs)
AllPairs-map R S f keeps d xs h i j e lt within =
    let long = length-map xs f in
    let inside : j < length xs = omega arith in
    rw (get_or-map f xs i d e (omega arith), get_or-map f xs j d e inside) (keeps (get_or xs i d) (get_or xs j d) (h i j d lt inside))

pub AllPairs-range : (n : ℕ) → AllPairs (λ a b. a < b) (range_with_len 0 n)
AllPairs-range n i j d lt within =
    let long = length-range_with_len 0 n in
    omega (arith, get_or-range_with_len 0 n i d (omega arith), get_or-range_with_len 0 n j d (omega arith))
