-- A description with fewer than two automata has the units of automaton 0 alone.
use Rattle.std.proofs.Common.{◌≡◌, ℕ, zero, suc, ◌<◌, ◌≤◌, List, [], ◌∷◌, ◌++◌, length, map, Contains, Option, Some, None, refl, sym, ap, ◌∙◌, subst, arith, ⊎_elim, slice_get}
use Rattle.std.specs.Prelude.{unwrap_or}
use Rattle.std.specs.Option.{option_map}
use Rattle.std.specs.Str.{bytes_eq}
use Rattle.std.proofs.lemmas.List.{length-map}
use Rattle.std.proofs.lemmas.Option.{slice_get-map, slice_get_within, get_or_from_slice_get}
use Rattle.std.proofs.lemmas.List.Quantifiers.{position-Some}
use Rattle.hz_base_model.specs.Lines.{place_of}
use Rattle.hz_base_model.specs.Pairs.{Pair}
use Rattle.hz_description_model.specs.Reservations.Alternatives.{Alternative, taking, Expression, alternatives_of}
use Rattle.hz_description_model.specs.Reservations.Automata.{UnitPlace}
use Rattle.hz_description_model.specs.Reading.Descriptions.{Description, UnitItem, ReservationItem, ClassItem, SetItem}
use Rattle.hz_description_model.specs.Reservations.Meanings.{Meaning, reservation, Mentions, alternatives_of_meaning}
use Rattle.hz_description_model.specs.Check.Places.{automaton_number, place_after, places_after, unit_places, unit_place, reservation_named, unit_or_reservation, meaning, places_of, statement_of, IsKnown}
use Rattle.hz_pipeline_model.specs.Pipelines.Pipelines.{class_of, pipeline_with, IsPipelineOf}
use Rattle.hz_description_model.specs.Reservations.Inside.{IsStatementOf}
use Rattle.hz_pipeline_model.specs.Accepting.Restricted.{IsOf}
use Rattle.hz_pipeline_model.specs.Accepting.Replay.{Class, Pipeline, alternatives_at, of_class, chosen, pairs_at}
use Rattle.hz_base_model.proofs.Elements.{Contains-nil, Contains-cons_cases, Contains-from_map}
use Rattle.hz_description_model.proofs.Reservations.UnitLaws.{AreAllOf, all_one, all_alternatives}
use Rattle.hz_description_model.proofs.Check.PlaceLaws.{at_name_in, from_filter_map}

-- a place in a list of at most one is 0
place_of_one : (name : List ℕ) (names : List (List ℕ)) → length names ≤ 1 → unwrap_or (place_of name names) 0 ≡ 0
place_of_one name names few = by_place (place_of name names) refl
  where
    by_place : (o : Option ℕ) → place_of name names ≡ o → unwrap_or o 0 ≡ 0
    by_place None e = refl
    by_place (Some i) e = omega (arith, (position-Some (bytes_eq name) names i [] e).0)

module _ (d : Description) (few : length d.automata ≤ 1) where
  number_zero : (o : Option (List ℕ)) → automaton_number d o ≡ 0
  number_zero None = refl
  number_zero (Some name) = place_of_one name (map (λ a. a.name) d.automata) (omega (arith, few, length-map d.automata (λ a. a.name)))

  places_zero : (before units : List UnitItem) (u : UnitPlace) → Contains (places_after d before units) u → u.automaton ≡ 0
  places_zero before [] u h = absurd (Contains-nil u h)
  places_zero before (item ∷ units) u h = ⊎_elim
      (λ (e : place_after d before item ≡ u). ap (λ (v : UnitPlace). v.automaton) (sym e) ∙ number_zero item.automaton)
      (λ (k : Contains (places_after d (before ++ item ∷ []) units) u). places_zero (before ++ item ∷ []) units u k)
      (Contains-cons_cases (place_after d before item) u (places_after d (before ++ item ∷ []) units) h)

  unit_zero : (name : List ℕ) (u : UnitPlace) → unit_place d name ≡ Some u → u.automaton ≡ 0
  unit_zero name u e = places_zero [] d.units u (at_name_in name (map (λ v. v.name) d.units) (unit_places d) u e)

  places_of_zero : (names : List (List ℕ)) (u : UnitPlace) → Contains (places_of d names) u → u.automaton ≡ 0
  places_of_zero names u h = let found = from_filter_map (unit_place d) names u h in unit_zero found.0 u found.2

  statement_zero : (s : SetItem) → IsStatementOf 0 (statement_of d s)
  statement_zero s = record {
    units = places_of_zero s.units;
    patterns = λ pattern there u h.
        let found = Contains-from_map (places_of d) s.patterns pattern there in
        places_of_zero found.0 u (subst (λ (us : List UnitPlace). Contains us u) (sym found.2) h);
  }

  module _ (known : List ℕ → List (Alternative UnitPlace)) (is : IsKnown d known) where
    abbrev InZero : UnitPlace → Type 0
    InZero u = u.automaton ≡ 0

    -- of names whose rank is below a number
    known_zero : (n : ℕ) (name : List ℕ) → (is.unwinds).rank name < n → AreAllOf InZero (known name)
    known_zero zero name low = absurd (omega arith)
    known_zero (suc n) name low = subst (AreAllOf InZero) (sym (is.expands name)) (by_meaning n name (unit_place d name) (reservation_named d name) refl refl
        (λ e from other h. let falls = (is.unwinds).falls name other e from h in known_zero n other (omega arith)))
      where
        by_meaning : (n : ℕ) (name : List ℕ) (u : Option UnitPlace) (r : Option ReservationItem) → unit_place d name ≡ u → reservation_named d name ≡ r
            → ((e : Expression) → meaning d name ≡ Some (reservation e) → (other : List ℕ) → Mentions e other → AreAllOf InZero (known other))
            → AreAllOf InZero (alternatives_of_meaning known (meaning d name))
        by_meaning n name (Some u) r a b below = subst (λ (m : Option (Meaning UnitPlace)). AreAllOf InZero (alternatives_of_meaning known m)) (sym (ap (λ (o : Option UnitPlace). unit_or_reservation o (reservation_named d name)) a))
            (all_one InZero (taking u) (record { each = λ p h. ⊎_elim (λ (e : record { unit = u; cycle = 0 } ≡ p). ap (λ (q : Pair UnitPlace). q.unit.automaton) (sym e) ∙ unit_zero name u a) (λ (k : Contains [] p). absurd (Contains-nil p k)) (Contains-cons_cases (record { unit = u; cycle = 0 }) p [] h) }))
        by_meaning n name None (Some r) a b below =
            let means : meaning d name ≡ Some (reservation r.expression) = ap (λ (o : Option UnitPlace). unit_or_reservation o (reservation_named d name)) a ∙ ap (unit_or_reservation None) b in
            subst (λ (m : Option (Meaning UnitPlace)). AreAllOf InZero (alternatives_of_meaning known m)) (sym means) (all_alternatives InZero known r.expression (below r.expression means))
        by_meaning n name None None a b below =
            let means : meaning d name ≡ None = ap (λ (o : Option UnitPlace). unit_or_reservation o (reservation_named d name)) a ∙ ap (unit_or_reservation None) b in
            subst (λ (m : Option (Meaning UnitPlace)). AreAllOf InZero (alternatives_of_meaning known m)) (sym means) (record { each = λ a h. absurd (Contains-nil a h) })

    classes_zero : (c : ClassItem) → AreAllOf InZero (alternatives_of known c.expression)
    classes_zero c = all_alternatives InZero known c.expression (λ name h. known_zero (suc ((is.unwinds).rank name)) name (omega arith))

    at_zero : (k : ℕ) → AreAllOf InZero (alternatives_at (pipeline_with d known) k)
    at_zero k = subst (λ (c : Option (Class UnitPlace)). AreAllOf InZero (of_class c)) (sym (slice_get-map (class_of known) d.classes k)) (by_class (slice_get d.classes k))
      where
        by_class : (c : Option ClassItem) → AreAllOf InZero (of_class (option_map (class_of known) c))
        by_class None = record { each = λ a h. absurd (Contains-nil a h) }
        by_class (Some c) = classes_zero c

    chosen_zero : (k i : ℕ) (p : Pair UnitPlace) → Contains (chosen (pipeline_with d known) k i) p → p.unit.automaton ≡ 0
    chosen_zero k i p h = by_item (slice_get (alternatives_at (pipeline_with d known) k) i) refl h
      where
        by_item : (o : Option (Alternative UnitPlace)) → slice_get (alternatives_at (pipeline_with d known) k) i ≡ o → Contains (pairs_at o) p → p.unit.automaton ≡ 0
        by_item None e h = absurd (Contains-nil p h)
        by_item (Some a) e h = ((at_zero k).each a (i, slice_get_within (alternatives_at (pipeline_with d known) k) i a e, get_or_from_slice_get (alternatives_at (pipeline_with d known) k) i a a e)).each p h

    machine_zero : IsOf 0 (pipeline_with d known)
    machine_zero = record {
      pairs = chosen_zero;
      statements = λ s h. let found = Contains-from_map (statement_of d) d.sets s h in subst (IsStatementOf 0) found.2 (statement_zero found.0);
    }

pub machine_of_one : (d : Description) (m : Pipeline UnitPlace) → length d.automata ≤ 1 → IsPipelineOf d m → IsOf 0 m
machine_of_one d m few is = subst (IsOf 0) (sym is.machine) (machine_zero d few is.known is.right)
