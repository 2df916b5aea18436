-- Where no name is unknown.
use Rattle.std.proofs.Common.{◌≡◌, ℕ, zero, suc, ◌<◌, List, [], ◌∷◌, ◌++◌, map, length, filter, get_or, Option, Some, None, Bool, true, false, not, nat_le, refl, sym, ap, ◌∙◌, subst, arith, cond, All}
use Rattle.std.proofs.lemmas.List.{get_or-map}
use Rattle.std.proofs.lemmas.List.Elements.{filter-append, All-cons}
use Rattle.std.proofs.lemmas.List.Quantifiers.{position-Some}
use Rattle.std.proofs.lemmas.Option.{same_Some}
use Rattle.std.specs.List.{flat_map, cons_option}
use Rattle.std.specs.Str.{bytes_eq}
use Rattle.hz_check.specs.Names.First.{first_of}
use Rattle.hz_description_model.specs.Check.CheckFaults.{sites_of, unknown_names, is_class, names_of_bypass, is_unit, names_of_set, unknown_in_expression, unknown_in_condition}
use Rattle.hz_description_model.specs.Check.CheckedParts.{class_numbers}
use Rattle.hz_description_model.specs.Reading.Descriptions.{Description, BypassItem}
use Rattle.hz_base_model.specs.Lines.{place_of}
use Rattle.hz_description_model.specs.Check.Places.{class_names}
use Rattle.hz_description_model.specs.Check.Sites.{Site, is_among, earlier, earliest}

one_of : (s t : Site) (b : Bool) → cond b (Some s) (Some t) ≡ None → ⊥
one_of s t true e = absurd (cc)
one_of s t false e = absurd (cc)

some : (s : Site) (o : Option Site) → earlier (Some s) o ≡ None → ⊥
some s None e = absurd (cc)
some s (Some t) e = one_of s t (nat_le s.form t.form) e

-- no site is reported where there is none
pub no_sites : (sites : List Site) → earliest sites ≡ None → sites ≡ []
no_sites [] e = refl
no_sites (s ∷ sites) e = absurd (some s (earliest sites) e)

pub both_empty : {A : Type 0} (xs ys : List A) → xs ++ ys ≡ [] → (xs ≡ []) × (ys ≡ [])
both_empty [] ys e = (refl, e)
both_empty (x ∷ xs) ys e = absurd (cc)

-- an item has none where all together have none
pub none_of_item : {A B : Type 0} (f : A → List B) (items : List A) (i : ℕ) (item : A) → flat_map f items ≡ [] → i < length items → item ≡ get_or items i item → f item ≡ []
none_of_item f [] i item none lt is = absurd (omega arith)
none_of_item f (x ∷ items) zero item none lt is = ap f is ∙ (both_empty (f x) (flat_map f items) none).0
none_of_item f (x ∷ items) (suc i) item none lt is = none_of_item f items i item (both_empty (f x) (flat_map f items) none).1 (omega arith) is

no_names : (line form : ℕ) (names : List (List ℕ)) → sites_of line form names ≡ [] → names ≡ []
no_names line form [] e = refl
no_names line form (n ∷ names) e = absurd (cc)

-- the names of a bypass are those of classes
pub known_bypass : (d : Description) (i : ℕ) (b : BypassItem) → earliest (unknown_names d) ≡ None → i < length d.bypasses → b ≡ get_or d.bypasses i b
    → (filter (λ name. not (is_class d name)) b.outs ≡ []) × (filter (λ name. not (is_class d name)) b.ins ≡ [])
known_bypass d i b none lt is =
    let reservations : List Site = flat_map (λ r. sites_of r.line r.form (unknown_in_expression d r.expression)) d.reservations in
    let classes : List Site = flat_map (λ c. sites_of c.line c.form (unknown_in_condition d c.condition ++ unknown_in_expression d c.expression)) d.classes in
    let bypasses : List Site = flat_map (λ b. sites_of b.line b.form (filter (λ name. not (is_class d name)) (names_of_bypass b))) d.bypasses in
    let sets : List Site = flat_map (λ s. sites_of s.line s.form (filter (λ name. not (is_unit d name)) (names_of_set s))) d.sets in
    let attributes : List Site = flat_map (λ a. sites_of a.line a.form (filter (λ name. not (is_among name a.values)) (a.fallback ∷ []))) d.attributes in
    let all = no_sites (unknown_names d) none in
    let first = (both_empty (reservations ++ classes ++ bypasses ++ sets) attributes all).0 in
    let second = (both_empty (reservations ++ classes ++ bypasses) sets first).0 in
    let here : bypasses ≡ [] = (both_empty (reservations ++ classes) bypasses second).1 in
    let names = no_names b.line b.form (filter (λ name. not (is_class d name)) (names_of_bypass b)) (none_of_item (λ b. sites_of b.line b.form (filter (λ name. not (is_class d name)) (names_of_bypass b))) d.bypasses i b here lt is) in
    both_empty (filter (λ name. not (is_class d name)) b.outs) (filter (λ name. not (is_class d name)) b.ins) (sym (filter-append (λ name. not (is_class d name)) b.outs b.ins) ∙ names)

-- the numbers of classes are below how many there are
pub numbers_below : (d : Description) (names : List (List ℕ)) → All (λ n. n < length (class_names d)) (class_numbers d names)
numbers_below d [] = λ k e lt. absurd (omega arith)
numbers_below d (name ∷ names) = one (place_of name (class_names d)) (λ n e. (position-Some (bytes_eq name) (class_names d) n name e).0) (numbers_below d names)
  where
    one : (o : Option ℕ) → ((n : ℕ) → o ≡ Some n → n < length (class_names d)) → All (λ n. n < length (class_names d)) (class_numbers d names) → All (λ n. n < length (class_names d)) (cons_option o (class_numbers d names))
    one None below rest = rest
    one (Some n) below rest = All-cons (λ m. m < length (class_names d)) n (class_numbers d names) (below n refl) rest

one_more : (P : ℕ → Type 0) (x y : ℕ) (rest : List ℕ) (b : Bool) → P y → (Some x ≡ first_of rest → P x) → Some x ≡ first_of (cond b (y ∷ rest) rest) → P x
one_more P x y rest true here later e = subst P (same_Some y x (sym e)) here
one_more P x y rest false here later e = later e

-- what holds of all holds of the first that passes
pub first_holds : (P : ℕ → Type 0) (p : ℕ → Bool) (xs : List ℕ) (x : ℕ) → All P xs → Some x ≡ first_of (filter p xs) → P x
first_holds P p [] x all e = absurd (cc)
first_holds P p (y ∷ xs) x all e = one_more P x y (filter p xs) (p y) (all 0 y (omega arith)) (first_holds P p xs x (λ k d lt. all (suc k) d (omega arith))) e

-- the item that is stored, as that of the definition
pub item_at : {A B : Type 0} (f : A → B) (items : List A) (i : ℕ) (item : A) → item ≡ get_or items i item → i < length items → f item ≡ get_or (map f items) i (f item)
item_at f items i item is lt = ap f is ∙ sym (get_or-map f items i item (f item) lt)
