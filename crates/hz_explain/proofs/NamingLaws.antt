-- The names of a description without a fault are those of a trace.
use Rattle.std.proofs.Common.{◌≡◌, ℕ, suc, ◌<◌, ◌≤◌, Bool, List, [], ◌∷◌, ◌++◌, length, map, take, get_or, All, sym, ap, ◌∙◌, subst, arith}
use Rattle.std.specs.Prelude.{◌≢◌}
use Rattle.std.specs.List.{AllPairs, flat_map}
use Rattle.std.proofs.lemmas.Bool.{cond_both}
use Rattle.std.proofs.lemmas.List.{length-append, length-map, get_or-map, get_or_append_left, length-take}
use Rattle.std.proofs.lemmas.List.Elements.{All-nil, All-cons}
use Rattle.hz_base_model.specs.Limits.{automaton_limit, class_limit, unit_limit}
use Rattle.hz_base_model.proofs.Ascending.{AllPairs-tail}
use Rattle.hz_check.specs.declared.parts.Parts.{Parts}
use Rattle.hz_checked.specs.declared.checked.CheckedAutomaton.{CheckedAutomaton}
use Rattle.hz_check.specs.Parts.{IsPartsOf}
use Rattle.hz_checked.specs.Shape.{automaton_of}
use Rattle.hz_description_model.specs.Check.CheckedParts.{AutomatonParts, ClassParts, automata_from, automata_of, automaton_names, attributes_of, bypass_parts, class_parts, places_where, unit_items_in}
use Rattle.hz_description_model.specs.Check.CheckedShape.{ask_names, IsKept}
use Rattle.hz_description_model.specs.Check.Places.{class_names}
use Rattle.hz_description_model.specs.Reading.Descriptions.{Description, ClassItem, UnitItem}
use Rattle.hz_description_model.specs.Reading.DescriptionShape.{IsCheckable}
use Rattle.hz_description_model.proofs.Check.KeptLaws.{parts_kept}
use Rattle.hz_description_model.proofs.Check.QueryPlaces.{names_of_their_own}
use Rattle.hz_reasons.proofs.PlanLaws.{map_twice}
use Rattle.hz_explain.specs.Naming.{AsksApart}

-- ---- pairs of lists side by side

pairs_front : {A : Type 0} (R : A → A → Type 0) (xs ys : List A) → AllPairs R (xs ++ ys) → AllPairs R xs
pairs_front R xs ys apart = λ i j d before within.
    let all = apart i j d before (omega (arith, within, length-append xs ys)) in
    subst (λ (x : _). R x (get_or xs j d)) (get_or_append_left xs ys d i (omega (arith, before, within)))
    (subst (λ (y : _). R (get_or (xs ++ ys) i d) y) (get_or_append_left xs ys d j within) all)

pairs_rest : {A : Type 0} (R : A → A → Type 0) (xs ys : List A) → AllPairs R (xs ++ ys) → AllPairs R ys
pairs_rest R [] ys apart = apart
pairs_rest R (x ∷ xs) ys apart = pairs_rest R xs ys (AllPairs-tail R x (xs ++ ys) apart)

pairs_each : {A B : Type 0} (R : B → B → Type 0) (f : A → List B) (xs : List A) → AllPairs R (flat_map f xs) → All (λ x. AllPairs R (f x)) xs
pairs_each R f [] apart = All-nil (λ x. AllPairs R (f x))
pairs_each R f (x ∷ xs) apart = All-cons (λ y. AllPairs R (f y)) x xs (pairs_front R (f x) (flat_map f xs) apart) (pairs_each R f xs (pairs_rest R (f x) (flat_map f xs) apart))

-- ---- query units

places_few : {A : Type 0} (test : A → Bool) (n : ℕ) (items : List A) → length (places_where test n items) ≤ length items
places_few test n [] = omega arith
places_few test n (x ∷ items) =
    let rest = places_few test (suc n) items in
    cond_both (test x) (n ∷ places_where test (suc n) items) (places_where test (suc n) items) (λ (places : List ℕ). length places ≤ suc (length items)) (λ _. omega (arith, rest)) (λ _. omega (arith, rest))

asks_few : (d : Description) (n : ℕ) (names : List (List ℕ)) → All (λ a. length a.queries ≤ length a.units) (automata_from d n names)
asks_few d n [] = All-nil (λ (a : AutomatonParts). length a.queries ≤ length a.units)
asks_few d n (name ∷ names) = All-cons (λ (a : AutomatonParts). length a.queries ≤ length a.units) _ (automata_from d (suc n) names)
    (omega (arith, places_few (λ (u : UnitItem). u.query) 0 (unit_items_in d n), length-map (unit_items_in d n) (λ (u : UnitItem). u.name)))
    (asks_few d (suc n) names)

module _ (d : Description) (parts : Parts) (is : IsPartsOf d parts) (formed : IsCheckable d) where
  kept : IsKept (automata_of d) (map (class_parts d is.known) d.classes) (map (bypass_parts d) d.bypasses) (attributes_of d)
  kept = parts_kept d is.known formed is.sound

  pub classes_apart : AllPairs (λ a b. a ≢ b) (class_names d)
  classes_apart = subst (AllPairs (λ a b. a ≢ b)) (map_twice (λ (c : ClassParts). c.name) (class_parts d is.known) d.classes) kept.class_names

  pub classes_few : length (class_names d) ≤ class_limit
  classes_few = omega (arith, kept.class_count, length-map d.classes (class_parts d is.known), length-map d.classes (λ (c : ClassItem). c.name))

  pub automata_few : length parts.automata.items ≤ automaton_limit
  automata_few = omega (arith, kept.few, length-map parts.automata.items automaton_of, ap length is.automata)

  pub asks_apart : All AsksApart parts.automata.items
  asks_apart = λ i a inside.
      let low : i < length (automata_of d) = omega (arith, inside, length-map parts.automata.items automaton_of, ap length is.automata) in
      let there : get_or (automata_of d) i (automaton_of a) ≡ automaton_of (get_or parts.automata.items i a) = ap (λ (xs : List AutomatonParts). get_or xs i (automaton_of a)) (sym is.automata) ∙ get_or-map automaton_of parts.automata.items i a (automaton_of a) inside in
      let names = pairs_each (λ x y. x ≢ y) ask_names (automata_of d) (names_of_their_own (automata_of d) kept.unit_names kept.queries) in
      let few = subst (λ (x : AutomatonParts). length x.queries ≤ length x.units) there (asks_few d 0 (automaton_names d) i (automaton_of a) low) in
      let units = subst (λ (x : AutomatonParts). length x.units ≤ unit_limit) there (kept.units i (automaton_of a) low) in
      record {
        units = subst (λ (x : AutomatonParts). All (λ n. n < length x.units) x.queries) there (kept.queries i (automaton_of a) low).1;
        names = subst (λ (x : AutomatonParts). AllPairs (λ x y. x ≢ y) (ask_names x)) there (names i (automaton_of a) low);
        few = omega (arith, few, units);
      }

  -- an automaton that is read
  module _ (items : List CheckedAutomaton) (same : items ≡ parts.automata.items) (i : ℕ) (low : i < length items) where
    pub item_apart : (a : CheckedAutomaton) → a ≡ get_or items i a → AsksApart a
    item_apart a item = subst AsksApart (sym item) (subst (All AsksApart) (sym same) asks_apart i a low)

    -- room for its names
    pub item_room : length (map ask_names (map automaton_of (take i items))) < automaton_limit
    item_room = omega (arith, low, ap length same, automata_few, length-map (map automaton_of (take i items)) ask_names, length-map (take i items) automaton_of, length-take i items)
