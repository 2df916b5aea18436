-- The first of a list that is not as all before it.
use Rattle.std.proofs.Common.{◌≡◌, ◌⊎◌, inl, inr, ⊎_elim, List, [], ◌∷◌, ◌++◌, All, refl, ap, subst}
use Rattle.std.proofs.lemmas.List.Elements.{All-nil, All-cons, All-contains, All-head, All-tail, Contains-append_right}
use Rattle.hz_base_model.proofs.Elements.{Contains-head}

module _ {X : Type 0} (P : X → Type 0) where
  -- two that are the first are one
  pub first_is_one : (before after ahead beyond : List X) (x y : X) → before ++ x ∷ after ≡ ahead ++ y ∷ beyond → All P before → (P x → ⊥) → All P ahead → (P y → ⊥) → x ≡ y
  first_is_one [] after [] beyond x y e good wrong fine bad = cc
  first_is_one [] after (b ∷ ahead) beyond x y e good wrong fine bad =
      let same : b ≡ x = cc in
      absurd (wrong (subst P same (All-head P b ahead fine)))
  first_is_one (a ∷ before) after [] beyond x y e good wrong fine bad =
      let same : a ≡ y = cc in
      absurd (bad (subst P same (All-head P a before good)))
  first_is_one (a ∷ before) after (b ∷ ahead) beyond x y e good wrong fine bad =
      first_is_one before after ahead beyond x y (cc) (All-tail P a before good) wrong (All-tail P b ahead fine) bad

  -- where there is one, not all are good
  pub first_or_all : (xs before after : List X) (x : X) → xs ≡ before ++ x ∷ after → (P x → ⊥) → All P xs → ⊥
  first_or_all xs before after x e wrong all = wrong (All-contains P (before ++ x ∷ after) x (subst (All P) e all) (Contains-append_right before (x ∷ after) x (Contains-head x after)))

  -- The first of a list of which another fact holds, after those that are good.
  pub record IsFirst (Q : X → Type 0) (xs : List X) (x : X) : Type 0 where
    pub before : List X
    pub after : List X
    pub parts : xs ≡ before ++ x ∷ after
    pub good : All P before
    pub is : Q x

  -- where each is good or not, all are good, or there is a first that is not
  pub all_or_first : (Q : X → Type 0) → ((x : X) → P x ⊎ Q x) → (xs : List X) → All P xs ⊎ ((x : X) × IsFirst Q xs x)
  all_or_first Q each [] = inl (All-nil P)
  all_or_first Q each (x ∷ xs) = ⊎_elim
      (λ (good : P x). ⊎_elim
      (λ (all : All P xs). inl (All-cons P x xs good all))
      (λ (first : (y : X) × IsFirst Q xs y). let f = first.1 in
      inr (first.0, record { before = x ∷ f.before; after = f.after; parts = ap (λ (ys : List X). x ∷ ys) f.parts; good = All-cons P x f.before good f.good; is = f.is }))
      (all_or_first Q each xs))
      (λ (wrong : Q x). inr (x, record { before = []; after = xs; parts = refl; good = All-nil P; is = wrong }))
      (each x)
