-- The automata of units by their names.
use Rattle.std.proofs.Common.{◌≡◌, ℕ, suc, List, [], ◌∷◌, ◌++◌, map, Option, Some, None, Bool, true, false, slice_get, not, filter, arith, refl, sym, ap, ◌∙◌, cond, option_and_then}
use Rattle.std.proofs.lemmas.Bool.Decides.{nat_tests}
use Rattle.std.specs.Option.{option_map}
use Rattle.std.specs.Str.{bytes_eq}
use Rattle.hz_check.specs.Names.First.{first_of}
use Rattle.hz_check.proofs.Tables.NameLists.{position-cons}
use Rattle.hz_description_model.specs.Reservations.Automata.{UnitPlace}
use Rattle.hz_description_model.specs.Check.CheckFaults.{home, same_home, strangers}
use Rattle.hz_description_model.specs.Reading.Descriptions.{Description, UnitItem}
use Rattle.hz_base_model.specs.Lines.{place_of}
use Rattle.hz_description_model.specs.Check.Places.{automaton_number, place_after, places_after, at_name}

module _ (d : Description) (name : List ℕ) where
  -- the automaton of the unit at a place
  abbrev pub home_at : List UnitItem → Option ℕ → Option ℕ
  home_at units place = option_map (λ u. automaton_number d u.automaton) (option_and_then (slice_get units) place)

  one_more : (u : UnitItem) (units : List UnitItem) (b : Bool) (o rest : Option ℕ) → rest ≡ home_at units o → cond b (Some (automaton_number d u.automaton)) rest ≡ home_at (u ∷ units) (cond b (Some 0) (option_map suc o))
  one_more u units true o rest e = refl
  one_more u units false None rest e = e
  one_more u units false (Some n) rest e = e

  into : (before : List UnitItem) (u : UnitItem) (b : Bool) (rest : Option UnitPlace) → option_map (λ p. p.automaton) (cond b (Some (place_after d before u)) rest) ≡ cond b (Some (automaton_number d u.automaton)) (option_map (λ p. p.automaton) rest)
  into before u true rest = refl
  into before u false rest = refl

  beyond : (before units : List UnitItem) → option_map (λ p. p.automaton) (at_name name (map (λ u. u.name) units) (places_after d before units)) ≡ home_at units (place_of name (map (λ u. u.name) units))
  beyond before [] = refl
  beyond before (u ∷ units) =
      let names : List (List ℕ) = map (λ u. u.name) units in
      into before u (bytes_eq name u.name) (at_name name names (places_after d (before ++ u ∷ []) units))
      ∙ (one_more u units (bytes_eq name u.name) (place_of name names) _ (beyond (before ++ u ∷ []) units)
      ∙ ap (home_at (u ∷ units)) (sym (position-cons (bytes_eq name) u.name names)))

  pub home-at : (place : Option ℕ) → place ≡ place_of name (map (λ u. u.name) d.units) → home d name ≡ home_at d.units place
  home-at place is = beyond [] d.units ∙ ap (home_at d.units) (sym is)

-- a unit has its own automaton
same_home_itself : (a : Option ℕ) → same_home a a ≡ true
same_home_itself None = refl
same_home_itself (Some n) = grind (arith, nat_tests)

-- the strangers are those of all names
pub strangers-of : (d : Description) (first : List ℕ) (names : List (List ℕ)) → Some first ≡ first_of names → filter (λ name. not (same_home (home d name) (home d first))) names ≡ strangers d names
strangers-of d first [] is = absurd (cc)
strangers-of d first (n ∷ names) is =
    let same : first ≡ n = cc in
    let own : not (same_home (home d n) (home d n)) ≡ false = ap not (same_home_itself (home d n)) in
    ap (λ (m : List ℕ). filter (λ name. not (same_home (home d name) (home d m))) (n ∷ names)) same
    ∙ ap (λ (b : Bool). cond b (n ∷ filter (λ name. not (same_home (home d name) (home d n))) names) (filter (λ name. not (same_home (home d name) (home d n))) names)) own

at_more : {A : Type 0} (b : Bool) (x : A) (xs : List A) (o : Option ℕ) (rest : Option A) → rest ≡ option_and_then (slice_get xs) o → cond b (Some x) rest ≡ option_and_then (slice_get (x ∷ xs)) (cond b (Some 0) (option_map suc o))
at_more true x xs o rest e = refl
at_more false x xs None rest e = e
at_more false x xs (Some n) rest e = e

none_at : {A : Type 0} (o : Option ℕ) → None ≡ option_and_then (slice_get {X = A} []) o
none_at None = refl
none_at (Some n) = refl

-- the item at the first place of its name
pub at_name-at : {A : Type 0} (name : List ℕ) (names : List (List ℕ)) (items : List A) → at_name name names items ≡ option_and_then (slice_get items) (place_of name names)
at_name-at name [] items = refl
at_name-at name (n ∷ names) [] = none_at (place_of name (n ∷ names))
at_name-at name (n ∷ names) (item ∷ items) =
    at_more (bytes_eq name n) item items (place_of name names) (at_name name names items) (at_name-at name names items)
    ∙ ap (option_and_then (slice_get (item ∷ items))) (sym (position-cons (bytes_eq name) n names))
