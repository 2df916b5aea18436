-- What stands at the first place of a name.
use Rattle.std.proofs.Common.{◌≡◌, ℕ, suc, ◌+◌, ◌-◌, ◌≤◌, ⊎_elim, Bool, true, false, cond, List, [], ◌∷◌, map, Contains, Option, Some, None, refl, sym, ap, ◌∙◌, subst, arith, slice_get}
use Rattle.std.specs.List.{position_from, filter_map, cons_option, list_any}
use Rattle.std.specs.Option.{option_map}
use Rattle.std.specs.Str.{bytes_eq}
use Rattle.std.proofs.lemmas.Bool.{or_parts}
use Rattle.hz_base_model.proofs.Elements.{Contains-nil, Contains-head, Contains-tail, Contains-cons_cases}
use Rattle.hz_base_model.specs.Lines.{place_of}
use Rattle.hz_description_model.specs.Check.Places.{at_name}
use Rattle.hz_check_reservations.proofs.FirstNames.{place_from_zero}

position_after : (test : List ℕ → Bool) (i k : ℕ) (names : List (List ℕ)) → position_from test i names ≡ Some k → i ≤ k
position_after test i k [] h = absurd (cc)
position_after test i k (n ∷ names) h = by_test (test n) (λ g. position_after test (i + 1) k names g) h
  where
    by_test : (b : Bool) → (position_from test (i + 1) names ≡ Some k → i + 1 ≤ k) → cond b (Some i) (position_from test (i + 1) names) ≡ Some k → i ≤ k
    by_test true rest g = let e : i ≡ k = cc in omega arith
    by_test false rest g = let low = rest g in omega arith

module _ {A : Type 0} (name : List ℕ) where
  -- the item at the first place of the name
  Found : ℕ → ℕ → Option A → List A → Type 0
  Found i k found items = (j : ℕ) × (k ≡ i + j) × (found ≡ slice_get items j)

  at_from : (i k : ℕ) (names : List (List ℕ)) (items : List A) → position_from (bytes_eq name) i names ≡ Some k → (j : ℕ) × (k ≡ i + j) × (at_name name names items ≡ slice_get items j)
  at_from i k [] items h = absurd (cc)
  at_from i k (n ∷ names) [] h = let low = position_after (bytes_eq name) i k (n ∷ names) h in (k - i, omega arith, refl)
  at_from i k (n ∷ names) (x ∷ items) h = by_test (bytes_eq name n) (λ g. at_from (i + 1) k names items g) h
    where
      by_test : (b : Bool) → (position_from (bytes_eq name) (i + 1) names ≡ Some k → (j : ℕ) × (k ≡ (i + 1) + j) × (at_name name names items ≡ slice_get items j))
          → cond b (Some i) (position_from (bytes_eq name) (i + 1) names) ≡ Some k → (j : ℕ) × (k ≡ i + j) × (cond b (Some x) (at_name name names items) ≡ slice_get (x ∷ items) j)
      by_test true again g = let e : i ≡ k = cc in (0, omega arith, refl)
      by_test false again g = let rest = again g in (suc rest.0, omega (arith, rest.1), rest.2)

  -- what has the name at its first place
  pub at_place : (k : ℕ) (names : List (List ℕ)) (items : List A) → place_of name names ≡ Some k → at_name name names items ≡ slice_get items k
  at_place k names items h =
      let found = at_from 0 k names items (sym (place_from_zero name names) ∙ h) in
      let e : found.0 ≡ k = omega (arith, found.1) in
      found.2 ∙ ap (slice_get items) e

  pub at_none : (names : List (List ℕ)) (items : List A) → list_any (bytes_eq name) names ≡ false → at_name name names items ≡ None
  at_none [] items h = refl
  at_none (n ∷ names) [] h = refl
  at_none (n ∷ names) (x ∷ items) h =
      let parts = or_parts (bytes_eq name n) (list_any (bytes_eq name) names) h in
      ap (λ (b : Bool). cond b (Some x) (at_name name names items)) parts.0 ∙ at_none names items parts.1

pub map-filter_map : {A B C : Type 0} (f : B → C) (g : A → Option B) (xs : List A) → map f (filter_map g xs) ≡ filter_map (λ x. option_map f (g x)) xs
map-filter_map f g [] = refl
map-filter_map {A} {B} {C} f g (x ∷ xs) = by_kept (g x) (map-filter_map f g xs)
  where
    by_kept : (o : Option B) → map f (filter_map g xs) ≡ filter_map (λ x. option_map f (g x)) xs → map f (cons_option o (filter_map g xs)) ≡ cons_option (option_map f o) (filter_map (λ x. option_map f (g x)) xs)
    by_kept None rest = rest
    by_kept (Some y) rest = ap (λ (ys : List C). f y ∷ ys) rest

kept_in : {A B : Type 0} (g : A → Option B) (xs : List A) (y : B) (o : Option B) → Contains (filter_map g xs) y → Contains (cons_option o (filter_map g xs)) y
kept_in g xs y None h = h
kept_in g xs y (Some z) h = Contains-tail z y (filter_map g xs) h

pub Contains-filter_map : {A B : Type 0} (g : A → Option B) (xs : List A) (x : A) (y : B) → Contains xs x → g x ≡ Some y → Contains (filter_map g xs) y
Contains-filter_map g [] x y h e = absurd (Contains-nil x h)
Contains-filter_map g (z ∷ xs) x y h e = ⊎_elim
    (λ (same : z ≡ x). subst (λ (o : Option _). Contains (cons_option o (filter_map g xs)) y) (sym (ap g same ∙ e)) (Contains-head y (filter_map g xs)))
    (λ (k : Contains xs x). kept_in g xs y (g z) (Contains-filter_map g xs x y k e))
    (Contains-cons_cases z x xs h)
