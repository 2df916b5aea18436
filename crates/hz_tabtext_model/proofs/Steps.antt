-- Judgements that did not fail.
use Rattle.std.proofs.Common.{◌≡◌, Bool, true, false, cond, List, [], ◌∷◌, map, Result, Ok, Err, refl, ap, ◌∙◌, subst}
use Rattle.std.specs.List.{AllByRecursion}
use Rattle.hz_tabtext_model.specs.Judging.{Kind, ◌>>=◌, each_by}

-- the value of a step that did not fail
pub bind_ok : {A B E : Type 0} (r : Result A E) (f : A → Result B E) (y : B) → (r >>= f) ≡ Ok y → (x : A) × (r ≡ Ok x) × (f x ≡ Ok y)
bind_ok (Ok x) f y e = (x, refl, e)
bind_ok (Err d) f y e = absurd (cc)

-- a test that had to pass
pub guard_ok : {A E : Type 0} (b : Bool) (r : Result A E) (d : E) (y : A) → cond b r (Err d) ≡ Ok y → (b ≡ true) × (r ≡ Ok y)
guard_ok true r d y e = (refl, e)
guard_ok false r d y e = absurd (cc)

-- a test that had to fail
pub unless_ok : {A E : Type 0} (b : Bool) (r : Result A E) (d : E) (y : A) → cond b (Err d) r ≡ Ok y → (b ≡ false) × (r ≡ Ok y)
unless_ok true r d y e = absurd (cc)
unless_ok false r d y e = (refl, e)

abbrev done : {A : Type 0} → A → Result A Kind
done x = Ok x

pub ok_is : {A E : Type 0} (x y : A) → ◌≡◌ {A = Result A E} (Ok x) (Ok y) → x ≡ y
ok_is x y e = cc

module _ {X : Type 0} {Y : Type 0} (judge : X → Result Y Kind) where
  -- what is judged is what was spelled
  pub each_takes : (spell : Y → X) (P : Y → Type 0) → ((x : X) (y : Y) → judge x ≡ Ok y → (x ≡ spell y) × P y)
      → (xs : List X) (ys : List Y) → each_by judge xs ≡ Ok ys → (xs ≡ map spell ys) × AllByRecursion P ys
  unfolding each_by
  each_takes spell P one [] ys e = subst (λ (zs : List Y). ([] ≡ map spell zs) × AllByRecursion P zs) (ok_is {E = Kind} [] ys e) (refl, tt)
  each_takes spell P one (x ∷ xs) ys e =
      let a = bind_ok (judge x) (λ y. each_by judge xs >>= λ zs. Ok (y ∷ zs)) ys e in
      let b = bind_ok (each_by judge xs) (λ zs. Ok (a.0 ∷ zs)) ys a.2 in
      let here = one x a.0 a.1 in
      let later = each_takes spell P one xs b.0 b.1 in
      let both : x ∷ xs ≡ map spell (a.0 ∷ b.0) = ap (λ (z : X). z ∷ xs) here.0 ∙ ap (λ (zs : List X). spell a.0 ∷ zs) later.0 in
      subst (λ (zs : List Y). (x ∷ xs ≡ map spell zs) × AllByRecursion P zs) (ok_is {E = Kind} (a.0 ∷ b.0) ys b.2) (both, (here.1, later.1))

  -- what was spelled is judged so
  pub each_again : (spell : Y → X) (P : Y → Type 0) → ((y : Y) → P y → judge (spell y) ≡ Ok y) → (ys : List Y) → AllByRecursion P ys → each_by judge (map spell ys) ≡ Ok ys
  unfolding each_by
  each_again spell P one [] h = refl
  each_again spell P one (y ∷ ys) h = rw (one y h.0, each_again spell P one ys h.1) refl
