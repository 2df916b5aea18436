-- The heaviest load is the first of the greatest value.
use Rattle.std.proofs.Common.{◌≡◌, ℕ, ◌<◌, ◌≤◌, Bool, true, false, List, [], ◌∷◌, ◌++◌, All, Option, Some, None, refl, sym, ap, subst, arith}
use Rattle.std.specs.Prelude.{nat_lt}
use Rattle.std.proofs.Common.{cond}
use Rattle.std.proofs.lemmas.Bool.{ltb-true, ltb-false}
use Rattle.std.proofs.lemmas.List.Elements.{All-nil, All-cons, All-head, All-tail}
use Rattle.hz_measure_model.specs.Bounds.Bounds.{UnitLoad, heavier, heaviest}

-- where a load is in a list, as the first of the greatest value
pub record IsFirstOf (loads : List UnitLoad) (l : UnitLoad) : Type 0 where
  pub front : List UnitLoad
  pub back : List UnitLoad
  pub parts : loads ≡ front ++ l ∷ back
  pub less : All (λ o. o.load.value < l.load.value) front
  pub most : All (λ o. o.load.value ≤ l.load.value) back

all_weaker : (n m : ℕ) → n ≤ m → (loads : List UnitLoad) → All (λ o. o.load.value ≤ n) loads → All (λ o. o.load.value ≤ m) loads
all_weaker n m low loads h = λ k d within. let is = h k d within in omega (arith, is, low)

no_more : (n : ℕ) (l : UnitLoad) (loads : List UnitLoad) → IsFirstOf loads l → l.load.value ≤ n → All (λ o. o.load.value ≤ n) loads
no_more n l loads is low = subst (All (λ o. o.load.value ≤ n)) (sym is.parts) (all_of is.front is.less)
  where
    all_of : (front : List UnitLoad) → All (λ o. o.load.value < l.load.value) front → All (λ o. o.load.value ≤ n) (front ++ l ∷ is.back)
    all_of [] h = All-cons (λ o. o.load.value ≤ n) l is.back low (all_weaker l.load.value n low is.back is.most)
    all_of (o ∷ front) h = All-cons (λ o. o.load.value ≤ n) o (front ++ l ∷ is.back)
        (let less = All-head (λ o. o.load.value < l.load.value) o front h in omega (arith, less, low))
        (all_of front (All-tail (λ o. o.load.value < l.load.value) o front h))

pub none_of : (loads : List UnitLoad) → heaviest loads ≡ None → loads ≡ []
none_of [] e = refl
none_of (first ∷ others) e = absurd (some (heaviest others) e)
  where
    some : (o : Option UnitLoad) → heavier (Some first) o ≡ None → ⊥
    some None h = absurd (cc)
    some (Some best) h = by_test (nat_lt first.load.value best.load.value) h
      where
        by_test : (t : Bool) → cond t (Some best) (Some first) ≡ None → ⊥
        by_test true k = absurd (cc)
        by_test false k = absurd (cc)

-- the one before the heaviest of the others, if it is not as heavy; else the one
added : (first : UnitLoad) (others : List UnitLoad) → ((l : UnitLoad) → heaviest others ≡ Some l → IsFirstOf others l) → (o : Option UnitLoad) → heaviest others ≡ o → (l : UnitLoad) → heavier (Some first) o ≡ Some l → IsFirstOf (first ∷ others) l
added first others rest None none l h =
    let is : first ≡ l = cc in
    let empty = none_of others none in
    subst (IsFirstOf (first ∷ others)) is (record {
      front = [];
      back = others;
      parts = refl;
      less = All-nil (λ o. o.load.value < first.load.value);
      most = subst (All (λ o. o.load.value ≤ first.load.value)) (sym empty) (All-nil (λ o. o.load.value ≤ first.load.value));
    })
added first others rest (Some best) some l h = by_test (nat_lt first.load.value best.load.value) refl h
  where
    of_best : IsFirstOf others best
    of_best = rest best some

    by_test : (t : Bool) → nat_lt first.load.value best.load.value ≡ t → cond t (Some best) (Some first) ≡ Some l → IsFirstOf (first ∷ others) l
    by_test true e k =
        let is : best ≡ l = cc in
        subst (IsFirstOf (first ∷ others)) is (record {
          front = first ∷ of_best.front;
          back = of_best.back;
          parts = ap (λ (os : List UnitLoad). first ∷ os) of_best.parts;
          less = All-cons (λ o. o.load.value < best.load.value) first of_best.front (ltb-true first.load.value best.load.value e) of_best.less;
          most = of_best.most;
        })
    by_test false e k =
        let is : first ≡ l = cc in
        subst (IsFirstOf (first ∷ others)) is (record {
          front = [];
          back = others;
          parts = refl;
          less = All-nil (λ o. o.load.value < first.load.value);
          most = no_more first.load.value best others of_best (ltb-false first.load.value best.load.value e);
        })

pub first_of : (loads : List UnitLoad) (l : UnitLoad) → heaviest loads ≡ Some l → IsFirstOf loads l
first_of [] l e = absurd (cc)
first_of (first ∷ others) l e = added first others (first_of others) (heaviest others) refl l e
