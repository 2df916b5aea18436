-- Of every list there is one that has each item once, where it can be reported which items are the same.
use Rattle.std.proofs.Common.{◌≡◌, ⊎_elim, List, [], ◌∷◌, get_or, Contains, subst, arith}
use Rattle.std.proofs.lemmas.List.Elements.{Contains-get_or}
use Rattle.std.proofs.lemmas.List.Kept.{AllPairs-cons}
use Rattle.hz_base_model.proofs.Elements.{Contains-nil, Contains-head, Contains-tail, Contains-cons_cases}
use Rattle.hz_pipeline_model.specs.Reaching.Reach.{AreDifferent}
use Rattle.hz_pipeline_model.proofs.Decidable.DecidedLaws.{IsDecided, some_reported}

-- Different items of a list, and the same one for each item of it.
pub record HasEachOnce {X : Type 0} (Same : X → X → Type 0) (xs ys : List X) : Type 0 where
  pub different : AreDifferent Same ys
  pub all : (x : X) → Contains xs x → (y : X) × Contains ys y × Same y x
  pub only : (y : X) → Contains ys y → Contains xs y

module _ {X : Type 0} (Same : X → X → Type 0) (reported : (x y : X) → IsDecided (Same x y)) (itself : (x : X) → Same x x) (back : (x y : X) → Same x y → Same y x) where
  -- an item that is there
  with_same : (x : X) (xs ys : List X) → HasEachOnce Same xs ys → (y : X) × Contains ys y × Same y x → HasEachOnce Same (x ∷ xs) ys
  with_same x xs ys has found = record {
    different = has.different;
    all = λ z h. ⊎_elim
        (λ (e : x ≡ z). subst (λ (w : X). (y : X) × Contains ys y × Same y w) e found)
        (λ (k : Contains xs z). has.all z k)
        (Contains-cons_cases x z xs h);
    only = λ y h. Contains-tail x y xs (has.only y h);
  }

  -- an item that is not
  with_other : (x : X) (xs ys : List X) → HasEachOnce Same xs ys → ((y : X) → Contains ys y → Same y x → ⊥) → HasEachOnce Same (x ∷ xs) (x ∷ ys)
  with_other x xs ys has none = record {
    different = AllPairs-cons (λ a b. Same a b → ⊥) x ys
        (λ i d within same. none (get_or ys i d) (Contains-get_or ys i d within) (back x (get_or ys i d) same))
        has.different;
    all = λ z h. ⊎_elim
        (λ (e : x ≡ z). (x, Contains-head x ys, subst (Same x) e (itself x)))
        (λ (k : Contains xs z). let found = has.all z k in (found.0, Contains-tail x found.0 ys found.1, found.2))
        (Contains-cons_cases x z xs h);
    only = λ y h. ⊎_elim
        (λ (e : x ≡ y). subst (Contains (x ∷ xs)) e (Contains-head x xs))
        (λ (k : Contains ys y). Contains-tail x y xs (has.only y k))
        (Contains-cons_cases x y ys h);
  }

  pub each_once : (xs : List X) → (ys : List X) × HasEachOnce Same xs ys
  each_once [] = ([], record { different = λ i j d low within. absurd (omega arith); all = λ x h. absurd (Contains-nil x h); only = λ y h. h })
  each_once (x ∷ xs) =
      let rest = each_once xs in
      ⊎_elim
      (λ (found : (y : X) × Contains rest.0 y × Same y x). (rest.0, with_same x xs rest.0 rest.1 found))
      (λ (none : (y : X) → Contains rest.0 y → Same y x → ⊥). (x ∷ rest.0, with_other x xs rest.0 rest.1 none))
      (some_reported (λ y. Same y x) (λ y. reported y x) rest.0)
