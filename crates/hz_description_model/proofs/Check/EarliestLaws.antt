-- The earliest of sites is the first of those of the first form.
use Rattle.std.proofs.Common.{◌≡◌, ◌<◌, ◌≤◌, List, [], ◌∷◌, ◌++◌, Contains, All, Option, Some, None, refl, sym, ap, subst, arith}
use Rattle.std.specs.Prelude.{◌↔◌, nat_le}
use Rattle.std.proofs.lemmas.Bool.{cond_both, leb-true, leb-false}
use Rattle.std.proofs.lemmas.List.Elements.{All-nil, All-cons, All-weaker, All-contains, Contains-append_right}
use Rattle.std.proofs.lemmas.Option.{none-some, same_Some}
use Rattle.hz_description_model.specs.Check.CheckFaults.{IsFirst}
use Rattle.hz_description_model.specs.Check.Sites.{Site, earlier, earliest}
use Rattle.hz_description_model.proofs.Check.CheckLaws.{first_one}
use Rattle.hz_base_model.proofs.Elements.{Contains-nil, Contains-head}

-- only of no sites none is the earliest
earlier_some : (s : Site) (o : Option Site) → earlier (Some s) o ≡ None → ⊥
earlier_some s None e = absurd (cc)
earlier_some s (Some t) e = cond_both (nat_le s.form t.form) (Some s) (Some t) (λ (o : Option Site). o ≡ None → ⊥) (λ _ h. none-some s (sym h)) (λ _ h. none-some t (sym h)) e

pub no_site : (sites : List Site) → earliest sites ≡ None → sites ≡ []
no_site [] e = refl
no_site (s ∷ sites) e = absurd (earlier_some s (earliest sites) e)

-- a site of the first form, after sites of later ones
record Least (sites : List Site) (s : Site) : Type 0 where
  before : List Site
  after : List Site
  parts : sites ≡ before ++ s ∷ after
  low : All (λ o. s.form ≤ o.form) sites
  lower : All (λ o. s.form < o.form) before

least_more : (t : Site) (sites : List Site) (s : Site) → ((s : Site) → earliest sites ≡ Some s → Least sites s) → (o : Option Site) → earliest sites ≡ o → earlier (Some t) o ≡ Some s → Least (t ∷ sites) s
least_more t sites s least None is e =
    let none = no_site sites is in
    subst (Least (t ∷ sites)) (same_Some t s e) (record {
      before = [];
      after = sites;
      parts = refl;
      low = All-cons (λ o. t.form ≤ o.form) t sites (omega arith) (subst (All (λ o. t.form ≤ o.form)) (sym none) (All-nil (λ o. t.form ≤ o.form)));
      lower = All-nil (λ o. t.form < o.form);
    })
least_more t sites s least (Some u) is e =
    let rest = least u is in
    cond_both (nat_le t.form u.form) (Some t) (Some u) (λ (o : Option Site). o ≡ Some s → Least (t ∷ sites) s)
    (λ first e.
    let low = leb-true t.form u.form first in
    subst (Least (t ∷ sites)) (same_Some t s e) (record {
      before = [];
      after = sites;
      parts = refl;
      low = All-cons (λ o. t.form ≤ o.form) t sites (omega arith) (All-weaker (λ o. u.form ≤ o.form) (λ o. t.form ≤ o.form) (λ o h. omega arith) sites rest.low);
      lower = All-nil (λ o. t.form < o.form);
    }))
    (λ later e.
    let low = leb-false t.form u.form later in
    subst (Least (t ∷ sites)) (same_Some u s e) (record {
      before = t ∷ rest.before;
      after = rest.after;
      parts = ap (λ (os : List Site). t ∷ os) rest.parts;
      low = All-cons (λ o. u.form ≤ o.form) t sites (omega arith) rest.low;
      lower = All-cons (λ o. u.form < o.form) t rest.before low rest.lower;
    })) e

least : (sites : List Site) (s : Site) → earliest sites ≡ Some s → Least sites s
least [] s e = absurd (none-some s e)
least (t ∷ sites) s e = least_more t sites s (least sites) (earliest sites) refl e

-- no site has an earlier form
abbrev IsOfFirst : List Site → Site → Type 0
IsOfFirst sites t = All (λ o. t.form ≤ o.form) sites

within : (sites before after : List Site) (s : Site) → sites ≡ before ++ s ∷ after → Contains sites s
within sites before after s parts = subst (λ (os : List Site). Contains os s) (sym parts) (Contains-append_right before (s ∷ after) s (Contains-head s after))

first_of_first : (sites : List Site) (s : Site) → earliest sites ≡ Some s → IsFirst (IsOfFirst sites) sites s
first_of_first sites s e =
    let l = least sites s e in
    record {
      before = l.before;
      after = l.after;
      parts = l.parts;
      holds = l.low;
      others = All-weaker (λ o. s.form < o.form) (λ o. IsOfFirst sites o → ⊥)
          (λ o later first. let low = All-contains (λ t. o.form ≤ t.form) sites s first (within sites l.before l.after s l.parts) in absurd (omega arith)) l.before l.lower;
    }

pub earliest_law : (sites : List Site) (s : Site) → earliest sites ≡ Some s ↔ IsFirst (λ t. All (λ o. t.form ≤ o.form) sites) sites s
earliest_law sites s = (first_of_first sites s, λ first. reported first (earliest sites) refl)
  where
    reported : IsFirst (IsOfFirst sites) sites s → (o : Option Site) → earliest sites ≡ o → o ≡ Some s
    reported first None e = absurd (Contains-nil s (subst (λ (os : List Site). Contains os s) (no_site sites e) (within sites first.before first.after s first.parts)))
    reported first (Some t) e = ap Some (first_one (IsOfFirst sites) sites t s (first_of_first sites t e) first)
