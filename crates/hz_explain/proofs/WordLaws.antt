-- How the code speaks of a description without a fault is how the definitions do.
use Rattle.std.proofs.Common.{◌≡◌, ℕ, zero, suc, ◌+◌, ◌<◌, ◌≤◌, ⊎_elim, Bool, false, cond, List, [], ◌∷◌, map, filter, length, Option, Some, None, refl, sym, ap, ◌∙◌, arith, zero-add}
use Rattle.std.specs.Prelude.{◌==◌, unwrap_or, codes, slice_get, slice_index_or}
use Rattle.std.specs.Option.{option_map}
use Rattle.std.specs.Str.{bytes_eq}
use Rattle.std.proofs.Math.Path.{fun_ext}
use Rattle.std.proofs.lemmas.Bool.{cases_lt, cond_both, eqb-true, eqb-false, ne_eqb}
use Rattle.std.proofs.lemmas.List.{length-map}
use Rattle.std.proofs.lemmas.List.Quantifiers.{position-Some}
use Rattle.std.proofs.lemmas.Option.{slice_get-map}
use Rattle.hz_base_model.specs.Lines.{place_of}
use Rattle.hz_checked.specs.declared.checked.CheckedAutomaton.{CheckedAutomaton}
use Rattle.hz_check.specs.declared.parts.Parts.{Parts}
use Rattle.hz_check.specs.Parts.{IsPartsOf}
use Rattle.hz_checked.specs.Shape.{automaton_of}
use Rattle.hz_description_model.specs.Check.CheckedParts.{AutomatonParts, automaton_count, automaton_names, automata_from, automata_of, units_in}
use Rattle.hz_description_model.specs.Check.Places.{automaton_number}
use Rattle.hz_description_model.specs.Reading.Descriptions as model
use Rattle.hz_description_model.specs.Reading.Descriptions.{AutomatonItem, UnitItem}
use Rattle.hz_description_model.specs.Reservations.Automata.{UnitPlace, place_cmp}
use Rattle.hz_mdread.specs.Shape.{class_item, set_item, description}
use Rattle.hz_mdread.specs.declared.description.Description.{Description}
use Rattle.hz_mdread.specs.declared.items.ClassItem.{ClassItem}
use Rattle.hz_mdread.specs.declared.items.SetItem.{SetItem}
use Rattle.hz_why_model.specs.Answers.{word_of, line_of, wording_of}
use Rattle.hz_why_model.specs.Reasons.{same_place}
use Rattle.hz_explain.specs.Telling.{name_or_none, units_or_none, unit_name, class_or_none, word_or_none, line_or_none, wording_in}

-- ---- classes and statements

classes_named : (items : List ClassItem) (k : ℕ) → class_or_none (slice_get items k) ≡ slice_index_or (map (λ (c : model.ClassItem). c.name) (map class_item items)) k []
classes_named [] k = refl
classes_named (c ∷ items) zero = refl
classes_named (c ∷ items) (suc k) = classes_named items k

words_are : (items : List SetItem) (n : ℕ) → word_or_none (slice_get items n) ≡ word_of (slice_get (map set_item items) n)
words_are [] n = refl
words_are (s ∷ items) zero = refl
words_are (s ∷ items) (suc n) = words_are items n

lines_are : (items : List SetItem) (n : ℕ) → line_or_none (slice_get items n) ≡ line_of (slice_get (map set_item items) n)
lines_are [] n = refl
lines_are (s ∷ items) zero = refl
lines_are (s ∷ items) (suc n) = lines_are items n

-- ---- units

name_read : (names : List (List ℕ)) (n : ℕ) → name_or_none (slice_get names n) ≡ slice_index_or names n []
name_read [] n = refl
name_read (name ∷ names) zero = refl
name_read (name ∷ names) (suc n) = name_read names n

abbrev units_of_parts : Option AutomatonParts → List (List ℕ)
units_of_parts None = []
units_of_parts (Some a) = a.units

of_automaton : (o : Option CheckedAutomaton) → units_or_none o ≡ units_of_parts (option_map automaton_of o)
of_automaton None = refl
of_automaton (Some a) = refl

filter_none : {X : Type 0} (f : X → Bool) (xs : List X) → ((x : X) → f x ≡ false) → filter f xs ≡ []
filter_none f [] none = refl
filter_none f (x ∷ xs) none = ap (λ (b : Bool). cond b (x ∷ filter f xs) (filter f xs)) (none x) ∙ filter_none f xs none

module _ (d : model.Description) where
  some_automaton : 0 < automaton_count d
  some_automaton = cond_both (length d.automata == 0) (codes "-" ∷ []) (map (λ a. a.name) d.automata) (λ names. 0 < length names)
      (λ _. omega arith)
      (λ some. let none = eqb-false (length d.automata) 0 some in let long = length-map d.automata (λ (a : AutomatonItem). a.name) in omega arith)

  number_low : (o : Option (List ℕ)) → automaton_number d o < automaton_count d
  number_low None = some_automaton
  number_low (Some name) = by_place (place_of name (map (λ a. a.name) d.automata)) refl
    where
      by_place : (o : Option ℕ) → place_of name (map (λ a. a.name) d.automata) ≡ o → unwrap_or o 0 < automaton_count d
      by_place None e = some_automaton
      by_place (Some i) e =
          let low : i < length (map (λ (a : AutomatonItem). a.name) d.automata) = (position-Some (bytes_eq name) (map (λ (a : AutomatonItem). a.name) d.automata) i [] e).0 in
          cond_both (length d.automata == 0) (codes "-" ∷ []) (map (λ a. a.name) d.automata) (λ names. i < length names)
          (λ none. let empty = eqb-true (length d.automata) 0 none in let long = length-map d.automata (λ (a : AutomatonItem). a.name) in absurd (omega arith))
          (λ some. low)

  -- past the last automaton there are no units
  none_past : (a : ℕ) → automaton_count d ≤ a → units_in d a ≡ []
  none_past a high = ap (map (λ (u : UnitItem). u.name)) (filter_none (λ (u : UnitItem). automaton_number d u.automaton == a) d.units
      (λ u. let low = number_low u.automaton in ne_eqb (automaton_number d u.automaton) a (λ e. absurd (omega arith))))

  units_there : (n : ℕ) (names : List (List ℕ)) (a : ℕ) → a < length names → units_of_parts (slice_get (automata_from d n names) a) ≡ units_in d (n + a)
  units_there n [] a lt = absurd (omega arith)
  units_there n (name ∷ names) zero lt = let same : n ≡ n + 0 = omega arith in ap (units_in d) same
  units_there n (name ∷ names) (suc a) lt = let same : suc n + a ≡ n + suc a = omega arith in units_there (suc n) names a (omega arith) ∙ ap (units_in d) same

  units_past : (n : ℕ) (names : List (List ℕ)) (a : ℕ) → length names ≤ a → units_of_parts (slice_get (automata_from d n names) a) ≡ []
  units_past n [] a le = refl
  units_past n (name ∷ names) zero le = absurd (omega arith)
  units_past n (name ∷ names) (suc a) le = units_past (suc n) names a (omega arith)

  units_at : (a : ℕ) → units_of_parts (slice_get (automata_of d) a) ≡ units_in d a
  units_at a = ⊎_elim
      (λ (low : a < automaton_count d). units_there 0 (automaton_names d) a low ∙ ap (units_in d) (zero-add a))
      (λ (high : automaton_count d ≤ a). units_past 0 (automaton_names d) a high ∙ sym (none_past a high))
      (cases_lt a (automaton_count d))

  units_named : (parts : Parts) → map automaton_of parts.automata.items ≡ automata_of d → (u : UnitPlace) → unit_name parts u ≡ slice_index_or (units_in d u.automaton) u.unit []
  units_named parts same u =
      ap (λ (names : List (List ℕ)). name_or_none (slice_get names u.unit))
      (of_automaton (slice_get parts.automata.items u.automaton)
      ∙ (ap units_of_parts (sym (slice_get-map automaton_of parts.automata.items u.automaton) ∙ ap (λ (parts : List AutomatonParts). slice_get parts u.automaton) same) ∙ units_at u.automaton))
      ∙ name_read (units_in d u.automaton) u.unit

-- the whole wording
pub wording_is : (d : Description) (parts : Parts) → IsPartsOf (description d) parts → wording_in d parts ≡ wording_of (description d)
wording_is d parts is =
    let unit = fun_ext (λ (u : UnitPlace). units_named (description d) parts is.automata u) in
    let class = fun_ext (λ (k : ℕ). classes_named d.classes.items k) in
    let statement = fun_ext (λ (n : ℕ). words_are d.sets.items n) in
    let line = fun_ext (λ (n : ℕ). lines_are d.sets.items n) in
    λ i. record { units = is.places i; same = same_place; unit_cmp = place_cmp; unit = unit i; class = class i; statement = statement i; line = line i }
