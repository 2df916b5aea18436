-- What lists that are made of items contain, and what is reported after what stands before.
use Rattle.std.proofs.Common.{◌≡◌, ◌⊎◌, inl, inr, ⊎_elim, List, [], ◌∷◌, ◌++◌, Contains, Option, Some, None, refl, sym, ap, ◌∙◌, subst, append_assoc}
use Rattle.std.specs.List.{filter_map, cons_option}
use Rattle.std.proofs.lemmas.List.{append-nil}
use Rattle.std.proofs.lemmas.Option.{none-some, same_Some}
use Rattle.hz_base_model.proofs.Elements.{Contains-nil, Contains-head, Contains-tail, Contains-cons_cases}
use Rattle.hz_description_model.specs.Check.Sites.{Site}
use Rattle.hz_description_model.specs.Check.ReportedPlaces.{ReportedAfter}

one_kept : {A B : Type 0} (f : A → Option B) (z x : A) (xs : List A) (y : B) (o : Option B) → f z ≡ o → f x ≡ Some y → (Contains xs x → Contains (filter_map f xs) y) → (z ≡ x) ⊎ Contains xs x → Contains (cons_option o (filter_map f xs)) y
one_kept f z x xs y None is e rest (inl same) = absurd (none-some y (sym is ∙ ap f same ∙ e))
one_kept f z x xs y None is e rest (inr k) = rest k
one_kept {A} {B} f z x xs y (Some w) is e rest (inl same) = subst (λ (v : B). Contains (v ∷ filter_map f xs) y) (sym (same_Some w y (sym is ∙ ap f same ∙ e))) (Contains-head y (filter_map f xs))
one_kept f z x xs y (Some w) is e rest (inr k) = Contains-tail w y (filter_map f xs) (rest k)

pub in_filter_map : {A B : Type 0} (f : A → Option B) (xs : List A) (x : A) (y : B) → Contains xs x → f x ≡ Some y → Contains (filter_map f xs) y
in_filter_map f [] x y there e = absurd (Contains-nil x there)
in_filter_map f (z ∷ xs) x y there e = one_kept f z x xs y (f z) refl e (λ k. in_filter_map f xs x y k e) (Contains-cons_cases z x xs there)

module _ {A : Type 0} (IsWrong : List A → A → Type 0) (site : A → Site) where
  -- the site is that of an item of these that is wrong after those and what stands before it
  pub record Tells (before items : List A) (t : Site) : Type 0 where
    pub front : List A
    pub item : A
    pub after : List A
    pub parts : items ≡ front ++ item ∷ after
    pub wrong : IsWrong (before ++ front) item
    pub is : site item ≡ t

  later : (before items : List A) (x : A) (t : Site) → Tells (before ++ x ∷ []) items t → Tells before (x ∷ items) t
  later before items x t h = record {
    front = x ∷ h.front;
    item = h.item;
    after = h.after;
    parts = ap (λ xs. x ∷ xs) h.parts;
    wrong = subst (λ (xs : List A). IsWrong xs h.item) (append_assoc before (x ∷ []) h.front) h.wrong;
    is = h.is;
  }

  no_parts : (front : List A) (x : A) (after : List A) → [] ≡ front ++ x ∷ after → ⊥
  no_parts [] x after e = absurd (cc)
  no_parts (y ∷ front) x after e = absurd (cc)

  -- of the first item, or of a later one
  first_or_later : (before items : List A) (x : A) (t : Site) → Tells before (x ∷ items) t → (IsWrong before x × (site x ≡ t)) ⊎ Tells (before ++ x ∷ []) items t
  first_or_later before items x t h = by_front h.front h.parts h.wrong
    where
      by_front : (front : List A) → x ∷ items ≡ front ++ h.item ∷ h.after → IsWrong (before ++ front) h.item → (IsWrong before x × (site x ≡ t)) ⊎ Tells (before ++ x ∷ []) items t
      by_front [] e wrong =
          let same : h.item ≡ x = cc in
          inl (subst (λ (xs : List A). IsWrong xs x) (append-nil before) (subst (λ (y : A). IsWrong (before ++ []) y) same wrong), ap site (sym same) ∙ h.is)
      by_front (y ∷ front) e wrong =
          let first : y ≡ x = cc in
          let rest : items ≡ front ++ h.item ∷ h.after = cc in
          let moved = subst (λ (xs : List A). IsWrong xs h.item) (sym (append_assoc before (x ∷ []) front)) (subst (λ (z : A). IsWrong (before ++ z ∷ front) h.item) first wrong) in
          inr (record { front = front; item = h.item; after = h.after; parts = rest; wrong = moved; is = h.is })

  pub reported_tells : (before items : List A) (reported : List Site) → ReportedAfter IsWrong site before items reported → (t : Site) → Contains reported t → Tells before items t
  reported_tells _ _ _ ReportedAfter.ends t c = absurd (Contains-nil t c)
  reported_tells _ _ _ (ReportedAfter.tells {before = before} {items = items} {item = item} {reported = reported} wrong rest) t c = ⊎_elim
      (λ (same : site item ≡ t). record { front = []; item = item; after = items; parts = refl; wrong = subst (λ (xs : List A). IsWrong xs item) (sym (append-nil before)) wrong; is = same })
      (λ (k : Contains reported t). later before items item t (reported_tells (before ++ item ∷ []) items reported rest t k))
      (Contains-cons_cases (site item) t reported c)
  reported_tells _ _ _ (ReportedAfter.passes {before = before} {items = items} {item = item} {reported = reported} right rest) t c = later before items item t (reported_tells (before ++ item ∷ []) items reported rest t c)

  pub tells_reported : (before items : List A) (reported : List Site) → ReportedAfter IsWrong site before items reported → (t : Site) → Tells before items t → Contains reported t
  tells_reported _ _ _ ReportedAfter.ends t h = absurd (no_parts h.front h.item h.after h.parts)
  tells_reported _ _ _ (ReportedAfter.tells {before = before} {items = items} {item = item} {reported = reported} wrong rest) t h = ⊎_elim
      (λ (here : IsWrong before item × (site item ≡ t)). subst (λ (x : Site). Contains (site item ∷ reported) x) here.1 (Contains-head (site item) reported))
      (λ (k : Tells (before ++ item ∷ []) items t). Contains-tail (site item) t reported (tells_reported (before ++ item ∷ []) items reported rest t k))
      (first_or_later before items item t h)
  tells_reported _ _ _ (ReportedAfter.passes {before = before} {items = items} {item = item} {reported = reported} right rest) t h = ⊎_elim
      (λ (here : IsWrong before item × (site item ≡ t)). absurd (right here.0))
      (λ (k : Tells (before ++ item ∷ []) items t). tells_reported (before ++ item ∷ []) items reported rest t k)
      (first_or_later before items item t h)
