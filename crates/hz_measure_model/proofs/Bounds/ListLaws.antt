-- A bound by the lists of each automaton is that by the alternatives of classes.
use Rattle.std.proofs.Common.{◌≡◌, ℕ, zero, suc, ◌+◌, ◌<◌, ⊎_elim, List, [], ◌∷◌, map, length, Contains, Option, refl, sym, ap, ◌∙◌, arith}
use Rattle.std.specs.Prelude.{slice_get, slice_index_or, max}
use Rattle.std.specs.List.{cons_option, range_with_len}
use Rattle.std.specs.Option.{option_map}
use Rattle.std.proofs.lemmas.List.{length-map}
use Rattle.std.proofs.lemmas.List.Elements.{Contains-append_cases}
use Rattle.std.proofs.lemmas.List.FromFn.{get_or-map-range_with_len}
use Rattle.hz_base_model.specs.Pairs.{Pair}
use Rattle.hz_base_model.proofs.Elements.{Contains-nil, Contains-head, Contains-tail, Contains-from_map}
use Rattle.hz_description_model.specs.Check.CheckedParts.{AutomatonParts, automaton_count, automata_of, lists_of, class_parts}
use Rattle.hz_description_model.specs.Check.Places.{Known}
use Rattle.hz_description_model.specs.Reading.Descriptions.{Description, ClassItem}
use Rattle.hz_description_model.specs.Reservations.Alternatives.{alternatives_of}
use Rattle.hz_description_model.specs.Reservations.Automata.{UnitPlace, list_in}
use Rattle.hz_pipeline_model.specs.Accepting.Replay.{alternatives_at, of_class}
use Rattle.hz_pipeline_model.specs.Pipelines.Pipelines.{class_of, pipeline_with}
use Rattle.hz_pipeline_model.proofs.Compiling.DescriptionLaws.{automata_count}
use Rattle.hz_block_model.specs.Scheduling.Schedules.{Graph}
use Rattle.hz_block_model.specs.Scheduled.BlockGraphs.{classes_of}
use Rattle.hz_measure_model.specs.Bounds.Paths.{greatest}
use Rattle.hz_measure_model.specs.Bounds.Loads.{Load, ways, ways_in, ways_by, load_of}
use Rattle.hz_measure_model.specs.Bounds.Bounds.{unit_names, units_of, units_from, UnitLoad, loads_of, heaviest, Bound, IsBoundBy, IsBoundOf}
use Rattle.hz_measure_model.proofs.Bounds.WayLaws.{load_of_lists}

-- the automaton of a unit is one of those that there are
automaton_from : (n : ℕ) (names : List (List (List ℕ))) (u : UnitPlace) → Contains (units_from n names) u → u.automaton < n + length names
automaton_from n [] u there = absurd (Contains-nil u there)
automaton_from n (units ∷ names) u there = ⊎_elim
    (λ (here : Contains (units_of n (length units)) u).
    let (i, held, e) = Contains-from_map (λ (i : ℕ). record { automaton = n; unit = i }) (range_with_len 0 (length units)) u here in
    let same = ap (λ (v : UnitPlace). v.automaton) e in
    omega (arith, same))
    (λ (later : Contains (units_from (suc n) names) u). let rest = automaton_from (suc n) names u later in omega (arith, rest))
    (Contains-append_cases (units_of n (length units)) (units_from (suc n) names) u there)

-- the loads are equal where that of each unit is
same_loads : (f h : UnitPlace → ℕ → List (List ℕ)) (classes : List ℕ) (units : List UnitPlace) → ((u : UnitPlace) → Contains units u → load_of (f u) classes ≡ load_of (h u) classes) → loads_of f units classes ≡ loads_of h units classes
same_loads f h classes [] each = refl
same_loads f h classes (u ∷ units) each =
    ap (λ (o : Option Load). cons_option (option_map (λ l. record { unit = u; load = l }) o) (loads_of f units classes)) (each u (Contains-head u units))
    ∙ ap (cons_option (option_map (λ l. record { unit = u; load = l }) (load_of (h u) classes))) (same_loads f h classes units (λ v there. each v (Contains-tail u v units there)))

module _ (d : Description) (known : Known) where
  abbrev lists : List (List (List (List (Pair ℕ))))
  lists = map (λ c. c.lists) (map (class_parts d known) d.classes)

  -- the list of a class
  list_of_class : (c : ClassItem) (a : ℕ) → a < automaton_count d → slice_index_or (lists_of d known c) a [] ≡ list_in a (alternatives_of known c.expression)
  list_of_class c a low = get_or-map-range_with_len (λ (automaton : ℕ). list_in automaton (alternatives_of known c.expression)) 0 (automaton_count d) a a [] low (omega arith)

  list_at_class : (classes : List ClassItem) (k a : ℕ) → a < automaton_count d → slice_index_or (slice_index_or (map (λ c. c.lists) (map (class_parts d known) classes)) k []) a [] ≡ list_in a (of_class (slice_get (map (class_of known) classes) k))
  list_at_class [] k a low = refl
  list_at_class (c ∷ classes) zero a low = list_of_class c a low
  list_at_class (c ∷ classes) (suc k) a low = list_at_class classes k a low

  pub loads_by_lists : (classes : List ℕ) → loads_of (ways_by lists) (units_from 0 (unit_names d)) classes ≡ loads_of (ways (pipeline_with d known)) (units_from 0 (unit_names d)) classes
  loads_by_lists classes = same_loads (ways_by lists) (ways (pipeline_with d known)) classes (units_from 0 (unit_names d)) (λ u there.
      let low : u.automaton < automaton_count d = omega (arith, automaton_from 0 (unit_names d) u there, length-map (automata_of d) (λ (a : AutomatonParts). a.units), automata_count d) in
      let ways_are : ways_by lists u ≡ (λ k. ways_in u.unit (list_in u.automaton (alternatives_at (pipeline_with d known) k))) = λ i k. ways_in u.unit (list_at_class d.classes k u.automaton low i) in
      ap (λ (taken : ℕ → List (List ℕ)). load_of taken classes) ways_are ∙ sym (load_of_lists (pipeline_with d known) u classes))

  pub bound_by_lists : (g : Graph) (b : Bound) → IsBoundBy (ways_by lists) (unit_names d) g b → IsBoundOf d known g b
  bound_by_lists g b is = record {
    tails = is.tails;
    are = is.are;
    path = is.path;
    chain = is.chain;
    load = is.load ∙ ap heaviest (loads_by_lists (classes_of g));
    value = is.value ∙ ap (λ (ls : List UnitLoad). max b.path (greatest (map (λ l. l.load.value) ls))) (loads_by_lists (classes_of g));
  }
