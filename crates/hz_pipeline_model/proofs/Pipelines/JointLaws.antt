-- A description that keeps the two rules has a pipeline whose classes factor.
use Rattle.std.proofs.Common.{◌≡◌, ℕ, zero, suc, ◌<◌, ⊎_elim, true, not, List, [], ◌∷◌, ◌++◌, length, map, All, Contains, Option, Some, None, refl, sym, ap, ◌∙◌, subst, arith, slice_get}
use Rattle.std.specs.Prelude.{◌==◌, unwrap_or, codes}
use Rattle.std.specs.Option.{option_map}
use Rattle.std.specs.Str.{bytes_eq}
use Rattle.std.proofs.lemmas.Bool.{cond_both, eqb-true, eqb-false, true_from_ne_false, not_from_false}
use Rattle.std.proofs.lemmas.Option.{slice_get-map, slice_get_within, get_or_from_slice_get, none-some}
use Rattle.std.proofs.lemmas.List.{length-map}
use Rattle.std.proofs.lemmas.List.Elements.{All-nil, All-cons, Contains-append_left, Contains-append_right}
use Rattle.std.proofs.lemmas.List.Quantifiers.{position-Some}
use Rattle.hz_base_model.specs.Lines.{place_of}
use Rattle.hz_base_model.specs.Pairs.{Pair}
use Rattle.hz_description_model.specs.Reservations.Alternatives.{Alternative, taking, Expression, alternatives_of}
use Rattle.hz_description_model.specs.Reservations.Automata.{UnitPlace}
use Rattle.hz_description_model.specs.Reservations.Inside.{IsStatementOf}
use Rattle.hz_description_model.specs.Reservations.Meanings.{Meaning, unit, reservation, Mentions, alternatives_of_meaning}
use Rattle.hz_description_model.specs.Reservations.Sets.{Statement}
use Rattle.hz_pipeline_model.specs.Accepting.Replay.{Class, alternatives_at, of_class}
use Rattle.hz_description_model.specs.Reading.Descriptions.{Description, AutomatonItem, UnitItem, ReservationItem, ClassItem, SetItem}
use Rattle.hz_description_model.specs.Check.CheckFaults.{CheckFault, IsSound, faults_of_meanings, sites_of, units_of_patterns, names_of_set, home, same_home, strangers, sets_across_automata}
use Rattle.hz_description_model.specs.Check.FirstReported.{Reported, Standing, first_reported, reported_at}
use Rattle.hz_description_model.specs.Check.CheckedParts.{automaton_count}
use Rattle.hz_description_model.specs.Check.Places.{automaton_number, place_after, places_after, unit_places, unit_place, reservation_named, unit_or_reservation, meaning, places_of, statement_of, IsKnown, Known}
use Rattle.hz_description_model.specs.Check.Sites.{Site, earliest}
use Rattle.hz_pipeline_model.specs.Pipelines.Pipelines.{class_of, pipeline_with}
use Rattle.hz_base_model.proofs.Elements.{Contains-nil, Contains-cons_cases, Contains-map, Contains-from_map, Contains-filter}
use Rattle.hz_description_model.proofs.Reservations.UnitLaws.{AreAllOf, all_one, all_alternatives}
use Rattle.hz_description_model.proofs.Check.EarliestLaws.{no_site}
use Rattle.hz_description_model.proofs.Check.PlaceLaws.{at_name_in, from_filter_map}
use Rattle.hz_description_model.proofs.Check.SplitLaws.{unmixed, even}
use Rattle.hz_pipeline_model.proofs.Pipelines.Choices.{there, Factors, none_factors}
use Rattle.hz_pipeline_model.proofs.Pipelines.ExpressionFactors.{Contains-flat_map, class_factors}
use Rattle.hz_description_model.proofs.Check.RankLaws.{ranks, ranks_low}
use Rattle.hz_pipeline_model.proofs.Pipelines.SideBySide.{IsJoint}

-- where nothing is reported, no fault stands anywhere
reported_none : (fault : CheckFault) (o : Option Site) (otherwise : Option (Reported CheckFault)) → reported_at fault o otherwise ≡ None → (o ≡ None) × (otherwise ≡ None)
reported_none fault None otherwise e = (refl, e)
reported_none fault (Some s) otherwise e = absurd (none-some _ (sym e))

none_stands : (standings : List (Standing CheckFault)) → first_reported standings ≡ None → All (λ s. s.sites ≡ []) standings
none_stands [] e = All-nil (λ s. s.sites ≡ [])
none_stands (s ∷ others) e =
    let here = reported_none s.fault (earliest s.sites) (first_reported others) e in
    All-cons (λ s. s.sites ≡ []) s others (no_site s.sites here.0) (none_stands others here.1)

-- both are one number
same_home_of : (a : ℕ) (o : Option ℕ) → same_home (Some a) o ≡ true → o ≡ Some a
same_home_of a None e = absurd (cc)
same_home_of a (Some b) e = ap Some (sym (eqb-true a b e))

unit_of : (o : Option UnitPlace) (r : Option ReservationItem) (u : UnitPlace) → unit_or_reservation o r ≡ Some (unit u) → o ≡ Some u
unit_of (Some v) r u e = cc
unit_of None (Some r) u e = absurd (cc)
unit_of None None u e = absurd (cc)

module _ (d : Description) where
  -- ---- automata

  some_automaton : 0 < automaton_count d
  some_automaton = cond_both (length d.automata == 0) (codes "-" ∷ []) (map (λ a. a.name) d.automata) (λ names. 0 < length names)
      (λ _. omega arith)
      (λ some. let none = eqb-false (length d.automata) 0 some in let long = length-map d.automata (λ (a : AutomatonItem). a.name) in omega arith)

  number_low : (o : Option (List ℕ)) → automaton_number d o < automaton_count d
  number_low None = some_automaton
  number_low (Some name) = by_place (place_of name (map (λ a. a.name) d.automata)) refl
    where
      by_place : (o : Option ℕ) → place_of name (map (λ a. a.name) d.automata) ≡ o → unwrap_or o 0 < automaton_count d
      by_place None e = some_automaton
      by_place (Some i) e =
          let low : i < length (map (λ (a : AutomatonItem). a.name) d.automata) = (position-Some (bytes_eq name) (map (λ (a : AutomatonItem). a.name) d.automata) i [] e).0 in
          cond_both (length d.automata == 0) (codes "-" ∷ []) (map (λ a. a.name) d.automata) (λ names. i < length names)
          (λ none. let empty = eqb-true (length d.automata) 0 none in let long = length-map d.automata (λ (a : AutomatonItem). a.name) in absurd (omega arith))
          (λ some. low)

  places_low : (before units : List UnitItem) (u : UnitPlace) → Contains (places_after d before units) u → u.automaton < automaton_count d
  places_low before [] u h = absurd (Contains-nil u h)
  places_low before (item ∷ units) u h = ⊎_elim
      (λ (e : place_after d before item ≡ u). subst (λ (v : UnitPlace). v.automaton < automaton_count d) e (number_low item.automaton))
      (λ (k : Contains (places_after d (before ++ item ∷ []) units) u). places_low (before ++ item ∷ []) units u k)
      (Contains-cons_cases (place_after d before item) u (places_after d (before ++ item ∷ []) units) h)

  unit_low : (name : List ℕ) (u : UnitPlace) → unit_place d name ≡ Some u → u.automaton < automaton_count d
  unit_low name u e = places_low [] d.units u (at_name_in name (map (λ v. v.name) d.units) (unit_places d) u e)

  -- ---- statements

  module _ (within : sets_across_automata d ≡ []) (s : SetItem) (stands : Contains d.sets s) where
    abbrev site_of : List ℕ → Site
    site_of name = record { line = s.line; form = s.form; name = name }

    -- each name of the set but the first is at the home of the first
    at_home : (first : List ℕ) (names : List (List ℕ)) → names_of_set s ≡ first ∷ names → (name : List ℕ) → Contains names name → same_home (home d name) (home d first) ≡ true
    at_home first names e name h = true_from_ne_false (same_home (home d name) (home d first))
        (λ strange.
        let stranger = Contains-filter (λ n. not (same_home (home d n) (home d first))) name (not_from_false (same_home (home d name) (home d first)) strange) names h in
        let reported = Contains-map site_of (strangers d (names_of_set s)) name (subst (λ (ns : List (List ℕ)). Contains (strangers d ns) name) (sym e) stranger) in
        let site : Site = record { line = s.line; form = s.form; name = name } in
        let all = Contains-flat_map (λ (s : SetItem). sites_of s.line s.form (strangers d (names_of_set s))) d.sets s site stands reported in
        Contains-nil site (subst (λ (ss : List Site). Contains ss site) within all))

    -- the units of its names are of one automaton
    record Home (names : List (List ℕ)) : Type 0 where
      number : ℕ
      low : number < automaton_count d
      each : (name : List ℕ) (u : UnitPlace) → Contains names name → unit_place d name ≡ Some u → u.automaton ≡ number

    home_of : (names : List (List ℕ)) → names_of_set s ≡ names → Home names
    home_of [] e = record { number = 0; low = some_automaton; each = λ name u h is. absurd (Contains-nil name h) }
    home_of (first ∷ names) e = by_first (unit_place d first) refl
      where
        by_first : (o : Option UnitPlace) → unit_place d first ≡ o → Home (first ∷ names)
        by_first None none = record {
          number = 0;
          low = some_automaton;
          each = λ name u h is. ⊎_elim
              (λ (same : first ≡ name). absurd (none-some u (sym none ∙ (ap (unit_place d) same ∙ is))))
              (λ (k : Contains names name).
              let one = same_home_of u.automaton (home d first) (subst (λ (o : Option UnitPlace). same_home (option_map (λ v. v.automaton) o) (home d first) ≡ true) is (at_home first names e name k)) in
              absurd (none-some u.automaton (sym (ap (option_map (λ (v : UnitPlace). v.automaton)) none) ∙ one)))
              (Contains-cons_cases first name names h);
        }
        by_first (Some v) found = record {
          number = v.automaton;
          low = unit_low first v found;
          each = λ name u h is. ⊎_elim
              (λ (same : first ≡ name). let both : Some v ≡ Some u = sym found ∙ (ap (unit_place d) same ∙ is) in let one : v ≡ u = cc in ap (λ (w : UnitPlace). w.automaton) (sym one))
              (λ (k : Contains names name).
              let one = same_home_of u.automaton (home d first) (subst (λ (o : Option UnitPlace). same_home (option_map (λ v. v.automaton) o) (home d first) ≡ true) is (at_home first names e name k)) in
              let both : Some v.automaton ≡ Some u.automaton = sym (ap (option_map (λ (v : UnitPlace). v.automaton)) found) ∙ one in cc)
              (Contains-cons_cases first name names h);
        }

    statement_home : (a : ℕ) × (a < automaton_count d) × IsStatementOf a (statement_of d s)
    statement_home =
        let at = home_of (names_of_set s) refl in (
          at.number,
          at.low,
          record {
            units = λ u h.
                let found = from_filter_map (unit_place d) s.units u h in
                at.each found.0 u (Contains-append_left s.units (units_of_patterns s) found.0 found.1) found.2;
            patterns = λ pattern there u h.
                let of = Contains-from_map (places_of d) s.patterns pattern there in
                let found = from_filter_map (unit_place d) of.0 u (subst (λ (us : List UnitPlace). Contains us u) (sym of.2) h) in
                at.each found.0 u (Contains-append_right s.units (units_of_patterns s) found.0 (Contains-flat_map (λ (names : List (List ℕ)). names) s.patterns of.0 found.0 of.1 found.1)) found.2;
          },
        )

  -- ---- classes

  module _ (known : Known) (is : IsKnown d known) where
    abbrev IsLow : UnitPlace → Type 0
    IsLow u = u.automaton < automaton_count d

    known_low : (n : ℕ) (name : List ℕ) → (is.unwinds).rank name < n → AreAllOf IsLow (known name)
    known_low zero name low = absurd (omega arith)
    known_low (suc n) name low = subst (AreAllOf IsLow) (sym (is.expands name)) (by_meaning (meaning d name) refl
        (λ x e other h. let falls = (is.unwinds).falls name other x e h in known_low n other (omega arith)))
      where
        by_meaning : (o : Option (Meaning UnitPlace)) → meaning d name ≡ o → ((x : Expression) → meaning d name ≡ Some (reservation x) → (other : List ℕ) → Mentions x other → AreAllOf IsLow (known other)) → AreAllOf IsLow (alternatives_of_meaning known o)
        by_meaning None e below = record { each = λ a h. absurd (Contains-nil a h) }
        by_meaning (Some (unit u)) e below = all_one IsLow (taking u) (record {
          each = λ p h. ⊎_elim
              (λ (same : record { unit = u; cycle = 0 } ≡ p). subst (λ (q : Pair UnitPlace). IsLow q.unit) same (unit_low name u (unit_of (unit_place d name) (reservation_named d name) u e)))
              (λ (k : Contains [] p). absurd (Contains-nil p k))
              (Contains-cons_cases (record { unit = u; cycle = 0 }) p [] h);
        })
        by_meaning (Some (reservation x)) e below = all_alternatives IsLow known x (below x e)

    pub class_low : (c : ClassItem) → AreAllOf IsLow (alternatives_of known c.expression)
    class_low c = all_alternatives IsLow known c.expression (λ name h. known_low (suc ((is.unwinds).rank name)) name (omega arith))

    -- what holds of no alternatives and of those of each class holds of those at each number
    at_class : (Q : List (Alternative UnitPlace) → Type 0) → Q [] → ((c : ClassItem) → Contains d.classes c → Q (alternatives_of known c.expression)) → (k : ℕ) → Q (alternatives_at (pipeline_with d known) k)
    at_class Q none each k = subst (λ (c : Option (Class UnitPlace)). Q (of_class c)) (sym (slice_get-map (class_of known) d.classes k)) (by_class (slice_get d.classes k) refl)
      where
        by_class : (o : Option ClassItem) → slice_get d.classes k ≡ o → Q (of_class (option_map (class_of known) o))
        by_class None e = none
        by_class (Some c) e = each c (k, slice_get_within d.classes k c e, get_or_from_slice_get d.classes k c c e)

module _ (d : Description) (known : Known) (sound : IsSound d known) where
  abbrev pub right : IsKnown d known
  right = (sound.unfolded).right

  pub some_there : 0 < automaton_count d
  some_there = some_automaton d

  pub class_pairs : (c : ClassItem) (x : Alternative UnitPlace) → Contains (alternatives_of known c.expression) x → (p : Pair UnitPlace) → Contains x.pairs p → p.unit.automaton < automaton_count d
  class_pairs c x h p k = ((class_low d known right c).each x h).each p k

  no_set_across : sets_across_automata d ≡ []
  no_set_across = none_stands (faults_of_meanings d known sound.order) sound.free 1 (record { fault = CheckFault.set_across_automata; sites = [] }) (omega arith)

  pub class_factors_of : (c : ClassItem) → Contains d.classes c → Factors (automaton_count d) (alternatives_of known c.expression)
  class_factors_of c h = class_factors (automaton_count d) (some_automaton d) known (meaning d) (ranks d known right) right.expands (length d.reservations) (ranks_low d known right) c.expression (unmixed d known sound c h) (even d known sound c h)

  pub joint : IsJoint (automaton_count d) (pipeline_with d known)
  joint = record {
    some = some_automaton d;
    pairs = λ k x p h. ((at_class d known right (AreAllOf (IsLow d known right)) (record { each = λ a none. absurd (Contains-nil a none) }) (λ c there_c. class_low d known right c) k).each x.item (there (alternatives_at (pipeline_with d known) k) x)).each p h;
    statements = λ s h. let found = Contains-from_map (statement_of d) d.sets s h in
        subst (λ (t : Statement UnitPlace). (a : ℕ) × (a < automaton_count d) × IsStatementOf a t) found.2 (statement_home d no_set_across found.0 found.1);
    factors = at_class d known right (Factors (automaton_count d)) (none_factors (automaton_count d)) class_factors_of;
  }
