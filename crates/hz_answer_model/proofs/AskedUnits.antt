-- Which unit a name in an ask is, where a description is sound.
use Rattle.std.proofs.Common.{◌≡◌, ◌≢◌, ℕ, zero, suc, ◌+◌, ◌<◌, inl, Bool, true, false, cond, List, [], ◌∷◌, ◌++◌, length, map, filter, Contains, Option, Some, None, get_or, slice_get, slice_index_or, unwrap_or, refl, sym, ap, ◌∙◌, subst, arith, add-zero, zero-add}
use Rattle.std.specs.Prelude.{◌==◌, codes, IsTrue}
use Rattle.std.specs.Option.{option_map}
use Rattle.std.specs.Str.{bytes_eq}
use Rattle.std.proofs.lemmas.Bool.{cond_both, eqb-true, eq-eqb}
use Rattle.std.proofs.lemmas.List.{length-map, map-append}
use Rattle.std.proofs.lemmas.List.Elements.{Contains-get_or}
use Rattle.std.proofs.lemmas.List.Quantifiers.{position-Some}
use Rattle.std.proofs.lemmas.Option.{none-some, same_Some, slice_get-map, slice_get-get_or, slice_get_within, get_or_from_slice_get}
use Rattle.std.proofs.lemmas.Slice.Eq.{bytes_eq-Decides}
use Rattle.hz_base_model.specs.Lines.{place_of}
use Rattle.hz_base_model.proofs.Elements.{Contains-head, Contains-tail, Contains-map, Contains-filter, Contains-from_filter}
use Rattle.hz_description_model.specs.Reading.Descriptions.{Description, AutomatonItem, UnitItem}
use Rattle.hz_description_model.specs.Reservations.Automata.{UnitPlace}
use Rattle.hz_description_model.specs.Check.CheckedParts.{automata_from, automaton_count, automaton_names, automaton_parts, ask_names_in, queries_in, unit_items_in, units_in}
use Rattle.hz_description_model.specs.Check.CheckedShape.{ask_names}
use Rattle.hz_description_model.specs.Check.CheckFaults.{IsSound, unit_site}
use Rattle.hz_description_model.specs.Check.Places.{Known, at_name, automaton_number, unit_place, unit_places}
use Rattle.hz_description_model.specs.Check.ReportedPlaces.{units_beside}
use Rattle.hz_description_model.proofs.Check.QueryPlaces as query_places
use Rattle.hz_description_model.proofs.Check.ReportedLaws.{places_count}
use Rattle.hz_pipeline_model.specs.Traces.TraceNames.{query_place}
use Rattle.hz_pipeline_model.proofs.Pipelines.JointLaws.{some_there}
use Rattle.hz_pipeline_model.proofs.Traces.NameLaws.{query_named, no_query_placed}
use Rattle.hz_pipeline_model.specs.Compiling.AutomatonPipelines.{query_unit}
use Rattle.hz_laws.specs.Names.NameFaults.{IsNameSpace}
use Rattle.hz_laws.proofs.Names.SoundLaws.{no_second_name}
use Rattle.hz_front_model.specs.Asks.{trace_names}

-- an item that a filter keeps comes after as many others that it keeps
module _ {A : Type 0} (p : A → Bool) where
  record IsKeptAt (xs : List A) (n : ℕ) (x : A) : Type 0 where
    before : List A
    after : List A
    parts : xs ≡ before ++ x ∷ after
    passes : p x ≡ true
    counted : length (filter p before) ≡ n

  kept_at : (xs : List A) (n : ℕ) (x : A) → slice_get (filter p xs) n ≡ Some x → IsKeptAt xs n x
  kept_at [] n x h = absurd (none-some x h)
  kept_at (y ∷ ys) n x h = by_test (p y) refl n h (kept_at ys)
    where
      by_test : (b : Bool) → p y ≡ b → (n : ℕ) → slice_get (cond b (y ∷ filter p ys) (filter p ys)) n ≡ Some x → ((n : ℕ) (x : A) → slice_get (filter p ys) n ≡ Some x → IsKeptAt ys n x) → IsKeptAt (y ∷ ys) n x
      by_test true e zero h later =
          let same : y ≡ x = same_Some y x h in
          record { before = []; after = ys; parts = ap (λ (z : A). z ∷ ys) same; passes = ap p (sym same) ∙ e; counted = refl }
      by_test true e (suc n) h later =
          let s = later n x h in
          record { before = y ∷ s.before; after = s.after; parts = ap (λ (zs : List A). y ∷ zs) s.parts; passes = s.passes; counted = ap (λ b. length (cond b (y ∷ filter p s.before) (filter p s.before))) e ∙ ap suc s.counted }
      by_test false e n h later =
          let s = later n x h in
          record { before = y ∷ s.before; after = s.after; parts = ap (λ (zs : List A). y ∷ zs) s.parts; passes = s.passes; counted = ap (λ b. length (cond b (y ∷ filter p s.before) (filter p s.before))) e ∙ s.counted }

-- the first item of a name is found by it
first_named : (before : List UnitItem) (u : UnitItem) (after : List UnitItem) (places : List UnitPlace) (place : UnitPlace) → ((v : UnitItem) → Contains before v → v.name ≢ u.name) → slice_get places (length before) ≡ Some place
    → at_name u.name (map (λ v. v.name) (before ++ u ∷ after)) places ≡ Some place
first_named [] u after [] place others h = absurd (none-some place h)
first_named [] u after (p ∷ places) place others h =
    ap (λ b. cond b (Some p) (at_name u.name (map (λ (v : UnitItem). v.name) after) places)) ((bytes_eq-Decides u.name u.name).1 refl) ∙ h
first_named (v ∷ before) u after [] place others h = absurd (none-some place h)
first_named (v ∷ before) u after (p ∷ places) place others h =
    cond_both (bytes_eq u.name v.name) (Some p) (at_name u.name (map (λ v. v.name) (before ++ u ∷ after)) places) (λ (o : Option UnitPlace). o ≡ Some place)
    (λ same. absurd (others v (Contains-head v before) (sym ((bytes_eq-Decides u.name v.name).0 same))))
    (λ _. first_named before u after places place (λ w there. others w (Contains-tail v w before there)) h)

module _ (d : Description) where
  -- ---- the names of query units

  -- the names that an automaton's query units have by their numbers
  abbrev asks_of : ℕ → List (List ℕ)
  asks_of a = ask_names (automaton_parts d a [])

  stand_in : (n : ℕ) (names : List (List ℕ)) (a q : ℕ) (name : List ℕ) → slice_get (get_or (map ask_names (automata_from d n names)) a []) q ≡ Some name → slice_get (asks_of (n + a)) q ≡ Some name
  stand_in n [] a q name h = absurd (none-some name h)
  stand_in n (first ∷ names) zero q name h = subst (λ m. slice_get (asks_of m) q ≡ Some name) (sym (add-zero n)) h
  stand_in n (first ∷ names) (suc a) q name h = let next : suc n + a ≡ n + suc a = omega arith in subst (λ m. slice_get (asks_of m) q ≡ Some name) next (stand_in (suc n) names a q name h)

  names_there : (n : ℕ) (names : List (List ℕ)) (a : ℕ) → a < length names → get_or (map ask_names (automata_from d n names)) a [] ≡ ask_names_in d (n + a)
  names_there n [] a low = absurd (omega (arith, low))
  names_there n (first ∷ names) zero low = query_places.asked_names d n first ∙ ap (ask_names_in d) (sym (add-zero n))
  names_there n (first ∷ names) (suc a) low = let next : suc n + a ≡ n + suc a = omega arith in names_there (suc n) names a (omega (arith, low)) ∙ ap (ask_names_in d) next

  -- ---- what is asked by a name

  -- the query unit that is asked
  record IsAskedOf (a q : ℕ) (name : List ℕ) : Type 0 where
    number : ℕ
    u : UnitItem
    is : slice_get (queries_in d a) q ≡ Some number
    there : slice_get (unit_items_in d a) number ≡ Some u
    query : IsTrue u.query
    named : u.name ≡ name

  abbrev name_in : ℕ → ℕ → List ℕ
  name_in a n = slice_index_or (units_in d a) n []

  asked_of : (a q : ℕ) (name : List ℕ) → slice_get (asks_of a) q ≡ Some name → IsAskedOf a q name
  asked_of a q name h = by_place (slice_get (queries_in d a) q) refl
    where
      by_place : (o : Option ℕ) → slice_get (queries_in d a) q ≡ o → IsAskedOf a q name
      by_place None e = absurd (none-some name (sym (slice_get-map (name_in a) (queries_in d a) q ∙ ap (option_map (name_in a)) e) ∙ h))
      by_place (Some n) e =
          let same : name_in a n ≡ name = same_Some (name_in a n) name (sym (slice_get-map (name_in a) (queries_in d a) q ∙ ap (option_map (name_in a)) e) ∙ h) in
          let listed : Contains (queries_in d a) n = subst (λ m. Contains (queries_in d a) m) (get_or_from_slice_get (queries_in d a) q n 0 e) (Contains-get_or (queries_in d a) q 0 (slice_get_within (queries_in d a) q n e)) in
          let found = (query_places.query_place d a n).0 listed in
          let own : name_in a n ≡ (found.0).name = get_or_from_slice_get (units_in d a) n ((found.0).name) [] (slice_get-map (λ (v : UnitItem). v.name) (unit_items_in d a) n ∙ ap (option_map (λ v. v.name)) found.1) in
          record { number = n; u = found.0; is = e; there = found.1; query = found.2; named = sym own ∙ same }

  asked : (name : List ℕ) (a q : ℕ) → query_place (trace_names d) name ≡ Some (a, q) → IsAskedOf a q name
  asked name a q h =
      let there : slice_get (asks_of (0 + a)) q ≡ Some name = stand_in 0 (automaton_names d) a q name (query_named (trace_names d) name a q h) in
      asked_of a q name (subst (λ m. slice_get (asks_of m) q ≡ Some name) (zero-add a) there)

  -- it is a query unit of the description
  pub asks_query : (name : List ℕ) (a q : ℕ) → query_place (trace_names d) name ≡ Some (a, q) → (u : UnitItem) × Contains d.units u × (u.name ≡ name) × IsTrue u.query
  asks_query name a q h =
      let f = asked name a q h in
      let in_automaton : Contains (unit_items_in d a) f.u = (f.number, slice_get_within (unit_items_in d a) f.number f.u f.there, get_or_from_slice_get (unit_items_in d a) f.number f.u f.u f.there) in
      (f.u, (Contains-from_filter (λ (v : UnitItem). automaton_number d v.automaton == a) f.u d.units in_automaton).0, f.named, f.query)

  module _ (known : Known) (sound : IsSound d known) where
    -- no unit before it has its name
    no_name_before : (before after : List UnitItem) (u : UnitItem) → d.units ≡ before ++ u ∷ after → (v : UnitItem) → Contains before v → v.name ≢ u.name
    no_name_before before after u parts v there same = no_second_name d known sound (unit_site u) (record {
      others = _;
      sites = _;
      before = map unit_site before;
      after = map unit_site after;
      space = IsNameSpace.of_units;
      parts = ap (map unit_site) parts ∙ map-append unit_site before (u ∷ after);
      second = inl (unit_site v, Contains-map unit_site before v there, same);
    })

    abbrev place : ℕ → ℕ → UnitPlace
    place a n = record { automaton = a; unit = n }

    -- a name in an ask is that of the unit by which the ask is answered
    pub asks_unit : (name : List ℕ) (a q : ℕ) → query_place (trace_names d) name ≡ Some (a, q) → unit_place d name ≡ Some (query_unit d a q)
    asks_unit name a q h =
        let f = asked name a q h in
        let s = kept_at (λ (v : UnitItem). automaton_number d v.automaton == a) d.units f.number f.u f.there in
        let home : automaton_number d (f.u).automaton ≡ a = eqb-true (automaton_number d (f.u).automaton) a s.passes in
        let counted : units_beside d s.before f.u ≡ f.number = ap (λ m. length (filter (λ (v : UnitItem). automaton_number d v.automaton == m) s.before)) home ∙ s.counted in
        let number : slice_index_or (queries_in d a) q 0 ≡ f.number = get_or_from_slice_get (queries_in d a) q f.number 0 f.is in
        let same : place (automaton_number d (f.u).automaton) (units_beside d s.before f.u) ≡ query_unit d a q = ap (λ m. place m (units_beside d s.before f.u)) home ∙ ap (place a) (counted ∙ sym number) in
        let there : slice_get (unit_places d) (length s.before) ≡ Some (query_unit d a q) = places_count d s.before s.after f.u s.parts ∙ ap Some same in
        let found : at_name (f.u).name (map (λ (v : UnitItem). v.name) (s.before ++ f.u ∷ s.after)) (unit_places d) ≡ Some (query_unit d a q)
        = first_named s.before f.u s.after (unit_places d) (query_unit d a q) (no_name_before s.before s.after f.u s.parts) there in
        subst (λ (n : List ℕ). unit_place d n ≡ Some (query_unit d a q)) f.named
        (subst (λ (us : List UnitItem). at_name (f.u).name (map (λ v. v.name) us) (unit_places d) ≡ Some (query_unit d a q)) (sym s.parts) found)

    -- the automaton of a unit is there
    number_low : (o : Option (List ℕ)) → automaton_number d o < automaton_count d
    number_low None = some_there d known sound
    number_low (Some name) = by_place (place_of name (map (λ a. a.name) d.automata)) refl
      where
        by_place : (o : Option ℕ) → place_of name (map (λ a. a.name) d.automata) ≡ o → unwrap_or o 0 < automaton_count d
        by_place None e = some_there d known sound
        by_place (Some i) e =
            let low : i < length (map (λ (a : AutomatonItem). a.name) d.automata) = (position-Some (bytes_eq name) (map (λ (a : AutomatonItem). a.name) d.automata) i [] e).0 in
            cond_both (length d.automata == 0) (codes "-" ∷ []) (map (λ a. a.name) d.automata) (λ names. i < length names)
            (λ none. let empty = eqb-true (length d.automata) 0 none in let long = length-map d.automata (λ (a : AutomatonItem). a.name) in absurd (omega (arith, empty, long, low)))
            (λ some. low)

    -- each query unit is found by its name
    pub finds_query : (u : UnitItem) → Contains d.units u → IsTrue u.query → (a q : ℕ) × (query_place (trace_names d) u.name ≡ Some (a, q))
    finds_query u there is = by_place (query_place (trace_names d) u.name) refl
      where
        home : ℕ
        home = automaton_number d u.automaton

        in_automaton : Contains (unit_items_in d home) u
        in_automaton = Contains-filter (λ (v : UnitItem). automaton_number d v.automaton == home) u (eq-eqb home home refl) d.units there

        listed : Contains (ask_names_in d home) u.name
        listed = Contains-map (λ (v : UnitItem). v.name) (filter (λ v. v.query) (unit_items_in d home)) u (Contains-filter (λ (v : UnitItem). v.query) u is (unit_items_in d home) in_automaton)

        stands : slice_get (slice_index_or (trace_names d).queries home []) listed.0 ≡ Some u.name
        stands =
            let names : slice_index_or (trace_names d).queries home [] ≡ ask_names_in d home = names_there 0 (automaton_names d) home (number_low u.automaton) ∙ ap (ask_names_in d) (zero-add home) in
            ap (λ (ns : List (List ℕ)). slice_get ns listed.0) names ∙ (slice_get-get_or (ask_names_in d home) listed.0 u.name listed.1 ∙ ap Some listed.2)

        by_place : (o : Option (ℕ × ℕ)) → query_place (trace_names d) u.name ≡ o → (a q : ℕ) × (query_place (trace_names d) u.name ≡ Some (a, q))
        by_place None e = absurd (no_query_placed (trace_names d) u.name e home listed.0 stands)
        by_place (Some place) e = (place.0, place.1, e)
