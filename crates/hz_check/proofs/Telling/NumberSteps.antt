-- Classes by their numbers, and the numbers that bypasses give them.
use Rattle.std.proofs.Common.{◌≡◌, ℕ, ◌==◌, List, [], ◌∷◌, filter, get_or, Option, Some, None, Bool, true, false, ◌||◌, not, is_some, refl, sym, ap, ◌∙◌, subst, cond, ⊎_elim}
use Rattle.std.proofs.lemmas.Bool.{cases_Bool, eqb-true}
use Rattle.std.proofs.lemmas.List.Quantifiers.{position-Some}
use Rattle.std.proofs.lemmas.Slice.Eq.{bytes_eq-Decides}
use Rattle.std.specs.List.{list_any, cons_option}
use Rattle.std.specs.Option.{MatchOption}
use Rattle.std.specs.Str.{bytes_eq}
use Rattle.hz_check.specs.Names.First.{first_of}
use Rattle.hz_description_model.specs.Check.CheckFaults.{is_class}
use Rattle.hz_description_model.specs.Check.CheckedParts.{class_numbers}
use Rattle.hz_description_model.specs.Reading.Descriptions.{Description}
use Rattle.hz_base_model.specs.Lines.{place_of}
use Rattle.hz_description_model.specs.Check.Places.{class_names}

-- Lists of numbers.

-- whether some number passes, by the first that does
pub any-first : (p : ℕ → Bool) (xs : List ℕ) → list_any p xs ≡ is_some (first_of (filter p xs))
any-first p [] = refl
any-first p (x ∷ xs) = one (p x) (any-first p xs)
  where
    one : (b : Bool) → list_any p xs ≡ is_some (first_of (filter p xs)) → (b || list_any p xs) ≡ is_some (first_of (cond b (x ∷ filter p xs) (filter p xs)))
    one true e = refl
    one false e = e

-- no number of the list passes
pub none_passes : (p : ℕ → Bool) (xs : List ℕ) (x : ℕ) → list_any p xs ≡ false → list_any (λ y. y == x) xs ≡ true → p x ≡ false
none_passes p [] x none h = absurd (cc)
none_passes p (y ∷ xs) x none h = ⊎_elim
    (λ (t : (y == x) ≡ true). subst (λ (z : ℕ). p z ≡ false) (eqb-true y x t) (first (p y) (list_any p xs) none))
    (λ (f : (y == x) ≡ false). none_passes p xs x (second (p y) (list_any p xs) none) (sym (ap (λ (b : Bool). b || list_any (λ z. z == x) xs) f) ∙ h))
    (cases_Bool (y == x))
  where
    first : (a b : Bool) → (a || b) ≡ false → a ≡ false
    first true b e = absurd (cc)
    first false b e = refl

    second : (a b : Bool) → (a || b) ≡ false → b ≡ false
    second true b e = absurd (cc)
    second false b e = e

-- Names of classes by their numbers.
module _ (d : Description) where
  -- a name with its number, before names of classes
  pub record FrontOf (name : List ℕ) (names : List (List ℕ)) : Type 0 where
    pub number : ℕ
    pub at : place_of name (class_names d) ≡ Some number
    pub others : filter (λ n. not (is_class d n)) names ≡ []

  some_number : (o : Option ℕ) → is_some o ≡ true → (n : ℕ) × (o ≡ Some n)
  some_number None e = absurd (cc)
  some_number (Some n) e = (n, refl)

  front : (name : List ℕ) (names : List (List ℕ)) → filter (λ n. not (is_class d n)) (name ∷ names) ≡ [] → FrontOf name names
  front name names none = by_test (is_class d name) refl none
    where
      by_test : (b : Bool) → is_class d name ≡ b → cond (not b) (name ∷ filter (λ n. not (is_class d n)) names) (filter (λ n. not (is_class d n)) names) ≡ [] → FrontOf name names
      by_test true e rest = let found = some_number (place_of name (class_names d)) e in record { number = found.0; at = found.1; others = rest }
      by_test false e rest = absurd (cc)

  -- one number, one name
  pub same_name : (x y : List ℕ) (n : ℕ) → place_of x (class_names d) ≡ Some n → place_of y (class_names d) ≡ Some n → x ≡ y
  same_name x y n at_x at_y =
      let first = position-Some (bytes_eq x) (class_names d) n [] at_x in
      let second = position-Some (bytes_eq y) (class_names d) n [] at_y in
      (bytes_eq-Decides x (get_or (class_names d) n [])).0 first.1 ∙ sym ((bytes_eq-Decides y (get_or (class_names d) n [])).0 second.1)

  numbers_more : (name : List ℕ) (names : List (List ℕ)) (n : ℕ) → place_of name (class_names d) ≡ Some n → class_numbers d (name ∷ names) ≡ n ∷ class_numbers d names
  numbers_more name names n at = ap (λ (o : Option ℕ). cons_option o (class_numbers d names)) at

  -- the number of the first name that passes
  abbrev pub IsFirstBy : (List ℕ → Bool) → List (List ℕ) → Option ℕ → Type 0
  IsFirstBy p names o = MatchOption o (first_of (filter p names) ≡ None) (λ n. (name : List ℕ) × (first_of (filter p names) ≡ Some name) × (place_of name (class_names d) ≡ Some n))

  module _ (p : List ℕ → Bool) (q : ℕ → Bool) (same : (name : List ℕ) (n : ℕ) → place_of name (class_names d) ≡ Some n → p name ≡ q n) where
    -- whether some passes
    pub any-numbers : (names : List (List ℕ)) → filter (λ n. not (is_class d n)) names ≡ [] → list_any p names ≡ list_any q (class_numbers d names)
    any-numbers [] none = refl
    any-numbers (name ∷ names) none =
        let f = front name names none in
        ap (λ (b : Bool). b || list_any p names) (same name f.number f.at)
        ∙ (ap (λ (b : Bool). q f.number || b) (any-numbers names f.others) ∙ ap (list_any q) (sym (numbers_more name names f.number f.at)))

    pub first-numbers : (names : List (List ℕ)) → filter (λ n. not (is_class d n)) names ≡ [] → IsFirstBy p names (first_of (filter q (class_numbers d names)))
    first-numbers [] none = refl
    first-numbers (name ∷ names) none =
        let f = front name names none in
        subst (λ (ns : List ℕ). IsFirstBy p (name ∷ names) (first_of (filter q ns))) (sym (numbers_more name names f.number f.at))
        (by_test name names f.number f.at (p name) (q f.number) refl (same name f.number f.at) (first-numbers names f.others))
      where
        by_test : (name : List ℕ) (names : List (List ℕ)) (n : ℕ) → place_of name (class_names d) ≡ Some n → (b c : Bool) → p name ≡ b → p name ≡ c → IsFirstBy p names (first_of (filter q (class_numbers d names)))
            → IsFirstBy p (name ∷ names) (first_of (cond c (n ∷ filter q (class_numbers d names)) (filter q (class_numbers d names))))
        by_test name names n at b true e f rest = (name, ap (λ (t : Bool). first_of (cond t (name ∷ filter p names) (filter p names))) f, at)
        by_test name names n at b false e f rest = subst (λ (ns : List (List ℕ)). MatchOption (first_of (filter q (class_numbers d names))) (first_of ns ≡ None) (λ m. (other : List ℕ) × (first_of ns ≡ Some other) × (place_of other (class_names d) ≡ Some m))) (ap (λ (t : Bool). cond t (name ∷ filter p names) (filter p names)) (sym f)) rest
