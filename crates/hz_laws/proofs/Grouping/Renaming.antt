-- A pipeline accepts the same by other names of its units.
use Rattle.std.proofs.Common.{◌≡◌, ℕ, ◌+◌, List, [], ◌∷◌, ◌++◌, length, take, map, Option, Some, None, Contains, refl, sym, ap, ◌∙◌, subst, arith, slice_get, slice_index}
use Rattle.std.specs.Prelude.{◌↔◌}
use Rattle.std.specs.Option.{option_map}
use Rattle.std.proofs.lemmas.Option.{slice_get-map}
use Rattle.std.proofs.lemmas.List.{length-map, map-append}
use Rattle.hz_base_model.specs.Pairs.{Pair, placed}
use Rattle.hz_base_model.proofs.Elements.{Contains-map, Contains-from_map}
use Rattle.hz_description_model.specs.Reservations.Alternatives.{Alternative}
use Rattle.hz_description_model.specs.Reservations.Sets.{Statement, Holds, HoldsSome, HoldsPattern, AllowsIn, Fits}
use Rattle.hz_pipeline_model.specs.Accepting.Events.{Event, issue, advance, ask, issues_of, cycles_of}
use Rattle.hz_pipeline_model.specs.Accepting.Replay.{first_fit, ChoiceFirst, Class, Pipeline, State, FitsAt, MayTake, IsChoice, Accepted, FirstRefused, alternatives_at, of_class, chosen, pairs_at, calendar, left_by}
use Rattle.hz_pipeline_model.specs.Accepting.Asking.{IsHeld}
use Rattle.hz_laws.specs.Grouping.{IsOneToOne, renamed_pair, renamed_pairs, renamed_alternative, renamed_class, renamed_statement, renamed}

module _ {U V : Type 0} (rename : U → V) (one : IsOneToOne rename) where
  holds_there : (pairs : List (Pair U)) (c : ℕ) (u : U) → Holds pairs c u → Holds (renamed_pairs rename pairs) c (rename u)
  holds_there pairs c u h = Contains-map (renamed_pair rename) pairs (record { unit = u; cycle = c }) h

  holds_back : (pairs : List (Pair U)) (c : ℕ) (u : U) → Holds (renamed_pairs rename pairs) c (rename u) → Holds pairs c u
  holds_back pairs c u h =
      let found = Contains-from_map (renamed_pair rename) pairs (record { unit = rename u; cycle = c }) h in
      let unit : (found.0).unit ≡ u = one (found.0).unit u (ap (λ (q : Pair V). q.unit) found.2) in
      let cycle : (found.0).cycle ≡ c = ap (λ (q : Pair V). q.cycle) found.2 in
      subst (λ (v : U). Contains pairs (record { unit = v; cycle = c })) unit (subst (λ (n : ℕ). Contains pairs (record { unit = (found.0).unit; cycle = n })) cycle found.1)

  renamed_placed : (n : ℕ) (pairs : List (Pair U)) → placed n (renamed_pairs rename pairs) ≡ renamed_pairs rename (placed n pairs)
  renamed_placed n [] = refl
  renamed_placed n (p ∷ pairs) = ap (λ (ps : List (Pair V)). record { unit = rename p.unit; cycle = n + p.cycle } ∷ ps) (renamed_placed n pairs)

  some_there : (units : List U) (pairs : List (Pair U)) (c : ℕ) → HoldsSome units (Holds pairs c) → HoldsSome (map rename units) (Holds (renamed_pairs rename pairs) c)
  some_there units pairs c (u, is, h) = (rename u, Contains-map rename units u is, holds_there pairs c u h)

  some_back : (units : List U) (pairs : List (Pair U)) (c : ℕ) → HoldsSome (map rename units) (Holds (renamed_pairs rename pairs) c) → HoldsSome units (Holds pairs c)
  some_back units pairs c (v, is, h) =
      let found = Contains-from_map rename units v is in
      (found.0, found.1, holds_back pairs c found.0 (subst (λ (w : V). Holds (renamed_pairs rename pairs) c w) (sym found.2) h))

  pattern_there : (patterns : List (List U)) (pairs : List (Pair U)) (c : ℕ) → HoldsPattern patterns (Holds pairs c) → HoldsPattern (map (map rename) patterns) (Holds (renamed_pairs rename pairs) c)
  pattern_there patterns pairs c (pattern, is, all) = (map rename pattern, Contains-map (map rename) patterns pattern is, each)
    where
      each : (v : V) → Contains (map rename pattern) v → Holds (renamed_pairs rename pairs) c v
      each v h =
          let found = Contains-from_map rename pattern v h in
          subst (λ (w : V). Holds (renamed_pairs rename pairs) c w) found.2 (holds_there pairs c found.0 (all found.0 found.1))

  pattern_back : (patterns : List (List U)) (pairs : List (Pair U)) (c : ℕ) → HoldsPattern (map (map rename) patterns) (Holds (renamed_pairs rename pairs) c) → HoldsPattern patterns (Holds pairs c)
  pattern_back patterns pairs c (other, is, all) =
      let found = Contains-from_map (map rename) patterns other is in
      (found.0, found.1, λ u h. holds_back pairs c u (all (rename u) (subst (λ (vs : List V). Contains vs (rename u)) found.2 (Contains-map rename found.0 u h))))

  -- a statement allows the same
  allows_there : (s : Statement U) (source added result : List (Pair U)) (c : ℕ) → AllowsIn s (Holds source c) (Holds added c) (Holds result c)
      → AllowsIn (renamed_statement rename s) (Holds (renamed_pairs rename source) c) (Holds (renamed_pairs rename added) c) (Holds (renamed_pairs rename result) c)
  allows_there s source added result c h = record {
    excluded = λ k x y. h.excluded k (some_back s.units result c x) (pattern_back s.patterns result c y);
    present = λ k x. pattern_there s.patterns source c (h.present k (some_back s.units added c x));
    finally_present = λ k x. pattern_there s.patterns result c (h.finally_present k (some_back s.units added c x));
    absent = λ k x y. h.absent k (some_back s.units added c x) (pattern_back s.patterns source c y);
    finally_absent = λ k x y. h.finally_absent k (some_back s.units added c x) (pattern_back s.patterns result c y);
  }

  allows_back : (s : Statement U) (source added result : List (Pair U)) (c : ℕ) → AllowsIn (renamed_statement rename s) (Holds (renamed_pairs rename source) c) (Holds (renamed_pairs rename added) c) (Holds (renamed_pairs rename result) c)
      → AllowsIn s (Holds source c) (Holds added c) (Holds result c)
  allows_back s source added result c h = record {
    excluded = λ k x y. h.excluded k (some_there s.units result c x) (pattern_there s.patterns result c y);
    present = λ k x. pattern_back s.patterns source c (h.present k (some_there s.units added c x));
    finally_present = λ k x. pattern_back s.patterns result c (h.finally_present k (some_there s.units added c x));
    absent = λ k x y. h.absent k (some_there s.units added c x) (pattern_there s.patterns source c y);
    finally_absent = λ k x y. h.finally_absent k (some_there s.units added c x) (pattern_there s.patterns result c y);
  }

  module _ (statements : List (Statement U)) (source pairs : List (Pair U)) (now : ℕ) where
    abbrev others : List (Statement V)
    others = map (renamed_statement rename) statements

    result_is : renamed_pairs rename source ++ placed now (renamed_pairs rename pairs) ≡ renamed_pairs rename (source ++ placed now pairs)
    result_is = ap (λ (ps : List (Pair V)). renamed_pairs rename source ++ ps) (renamed_placed now pairs) ∙ sym (map-append (renamed_pair rename) source (placed now pairs))

    fits_there : Fits statements source pairs now → Fits others (renamed_pairs rename source) (renamed_pairs rename pairs) now
    fits_there h = record {
      apart = λ q x y.
          let first = Contains-from_map (renamed_pair rename) source q x in
          let there = holds_back (placed now pairs) (first.0).cycle (first.0).unit
          (subst (λ (p : Pair V). Contains (renamed_pairs rename (placed now pairs)) p) (sym first.2) (subst (λ (ps : List (Pair V)). Contains ps q) (renamed_placed now pairs) y)) in
          h.apart first.0 first.1 there;
      allowed = λ s is c.
          let found = Contains-from_map (renamed_statement rename) statements s is in
          let all = allows_there found.0 source (placed now pairs) (source ++ placed now pairs) c (h.allowed found.0 found.1 c) in
          subst (λ (s : Statement V). AllowsIn s (Holds (renamed_pairs rename source) c) (Holds (placed now (renamed_pairs rename pairs)) c) (Holds (renamed_pairs rename source ++ placed now (renamed_pairs rename pairs)) c)) found.2
          (rw (result_is, renamed_placed now pairs) all);
    }

    fits_back : Fits others (renamed_pairs rename source) (renamed_pairs rename pairs) now → Fits statements source pairs now
    fits_back h = record {
      apart = λ p x y. h.apart (renamed_pair rename p) (Contains-map (renamed_pair rename) source p x)
          (subst (λ (ps : List (Pair V)). Contains ps (renamed_pair rename p)) (sym (renamed_placed now pairs)) (Contains-map (renamed_pair rename) (placed now pairs) p y));
      allowed = λ s is c.
          allows_back s source (placed now pairs) (source ++ placed now pairs) c
          (rw (sym result_is, sym (renamed_placed now pairs)) (h.allowed (renamed_statement rename s) (Contains-map (renamed_statement rename) statements s is) c));
    }

module _ {U V : Type 0} (rename : U → V) (one : IsOneToOne rename) (m : Pipeline U) where
  abbrev o : Pipeline V
  o = renamed rename m

  alternatives_renamed : (k : ℕ) → alternatives_at o k ≡ map (renamed_alternative rename) (alternatives_at m k)
  alternatives_renamed k = ap of_class (slice_get-map (renamed_class rename) m.classes k) ∙ by_class (slice_get m.classes k)
    where
      by_class : (c : Option (Class U)) → of_class (option_map (renamed_class rename) c) ≡ map (renamed_alternative rename) (of_class c)
      by_class None = refl
      by_class (Some c) = refl

  as_many : (k : ℕ) → length (alternatives_at o k) ≡ length (alternatives_at m k)
  as_many k = ap length (alternatives_renamed k) ∙ length-map (alternatives_at m k) (renamed_alternative rename)

  chosen_renamed : (k i : ℕ) → chosen o k i ≡ renamed_pairs rename (chosen m k i)
  chosen_renamed k i =
      ap (λ (options : List (Alternative V)). pairs_at (slice_get options i)) (alternatives_renamed k)
      ∙ (ap pairs_at (slice_get-map (renamed_alternative rename) (alternatives_at m k) i) ∙ by_item (slice_get (alternatives_at m k) i))
    where
      by_item : (a : Option (Alternative U)) → pairs_at (option_map (renamed_alternative rename) a) ≡ renamed_pairs rename (pairs_at a)
      by_item None = refl
      by_item (Some a) = refl

  pub calendar_renamed : (now : ℕ) (t : List Event) (choices : List ℕ) → calendar o now t choices ≡ renamed_pairs rename (calendar m now t choices)
  calendar_renamed now [] choices = refl
  calendar_renamed now (advance n ∷ t) choices = calendar_renamed (n + now) t choices
  calendar_renamed now (ask a u ∷ t) choices = calendar_renamed now t choices
  calendar_renamed now (issue k ∷ t) [] = refl
  calendar_renamed now (issue k ∷ t) (i ∷ choices) =
      let here : placed now (chosen o k i) ≡ renamed_pairs rename (placed now (chosen m k i)) = ap (placed now) (chosen_renamed k i) ∙ renamed_placed rename one now (chosen m k i) in
      ap (λ (ps : List (Pair V)). ps ++ calendar o now t choices) here
      ∙ (ap (λ (ps : List (Pair V)). renamed_pairs rename (placed now (chosen m k i)) ++ ps) (calendar_renamed now t choices)
      ∙ sym (map-append (renamed_pair rename) (placed now (chosen m k i)) (calendar m now t choices)))

  abbrev renamed_state : State U → State V
  renamed_state s = record { reserved = renamed_pairs rename s.reserved; now = s.now }

  left_renamed : (t : List Event) (choices : List ℕ) → left_by o t choices ≡ renamed_state (left_by m t choices)
  left_renamed t choices = ap (λ (ps : List (Pair V)). record { reserved = ps; now = cycles_of t }) (calendar_renamed 0 t choices)

  module _ (s : State U) (k : ℕ) where
    fit_there : (i : ℕ) → FitsAt m s k i → FitsAt o (renamed_state s) k i
    fit_there i h = (omega (arith, h.0, as_many k), subst (λ (ps : List (Pair V)). Fits o.statements (renamed_pairs rename s.reserved) ps s.now) (sym (chosen_renamed k i)) (fits_there rename one m.statements s.reserved (chosen m k i) s.now h.1))

    fit_back : (i : ℕ) → FitsAt o (renamed_state s) k i → FitsAt m s k i
    fit_back i h = (omega (arith, h.0, as_many k), fits_back rename one m.statements s.reserved (chosen m k i) s.now (subst (λ (ps : List (Pair V)). Fits o.statements (renamed_pairs rename s.reserved) ps s.now) (chosen_renamed k i) h.1))

    take_there : (i : ℕ) → MayTake m s k i → MayTake o (renamed_state s) k i
    take_there i h = record { fits = fit_there i h.fits; first = λ t j low fit. h.first t j low (fit_back j fit) }

    take_back : (i : ℕ) → MayTake o (renamed_state s) k i → MayTake m s k i
    take_back i h = record { fits = fit_back i h.fits; first = λ t j low fit. h.first t j low (fit_there j fit) }

  choice_there : (t : List Event) (choices : List ℕ) → IsChoice m t choices → IsChoice o t choices
  choice_there t choices h = record {
    each = h.each;
    may = λ before after k parts.
        subst (λ (s : State V). MayTake o s k (slice_index choices (issues_of before))) (sym (left_renamed before choices))
        (take_there (left_by m before choices) k _ (h.may before after k parts));
  }

  choice_back : (t : List Event) (choices : List ℕ) → IsChoice o t choices → IsChoice m t choices
  choice_back t choices h = record {
    each = h.each;
    may = λ before after k parts.
        take_back (left_by m before choices) k _
        (subst (λ (s : State V). MayTake o s k (slice_index choices (issues_of before))) (left_renamed before choices) (h.may before after k parts));
  }

  pub choices_renamed : (t : List Event) (choices : List ℕ) → IsChoice m t choices ↔ IsChoice o t choices
  choices_renamed t choices = (choice_there t choices, choice_back t choices)

  pub accepted_renamed : (t : List Event) → Accepted m t ↔ Accepted o t
  accepted_renamed t = (λ h. (h.0, choice_there t h.0 h.1), λ h. (h.0, choice_back t h.0 h.1))

  pub refused_renamed : (t : List Event) (i : ℕ) → FirstRefused m t i ↔ FirstRefused o t i
  refused_renamed t i = (
    λ h. record { within = h.within; before = (accepted_renamed (take i t)).0 h.before; refused = λ k. h.refused ((accepted_renamed (take (i + 1) t)).1 k) },
    λ h. record { within = h.within; before = (accepted_renamed (take i t)).1 h.before; refused = λ k. h.refused ((accepted_renamed (take (i + 1) t)).0 k) },
  )

module _ {U V : Type 0} (rename : U → V) (one : IsOneToOne rename) (m : Pipeline U) where
  same_choices : (t : List Event) (choices : List ℕ) → ChoiceFirst m t choices ↔ ChoiceFirst (renamed rename m) t choices
  same_choices t choices = choices_renamed rename one (record m { treatment = first_fit }) t choices

  held_there : (t : List Event) (unit : U) → IsHeld m t unit → IsHeld (renamed rename m) t (rename unit)
  held_there t unit (choices, is, h) = (choices, (same_choices t choices).0 is, rw (calendar_renamed rename one m 0 t choices) (holds_there rename one (calendar m 0 t choices) (cycles_of t) unit h))

  held_back : (t : List Event) (unit : U) → IsHeld (renamed rename m) t (rename unit) → IsHeld m t unit
  held_back t unit (choices, is, h) =
      (choices, (same_choices t choices).1 is, holds_back rename one (calendar m 0 t choices) (cycles_of t) unit (rw (sym (calendar_renamed rename one m 0 t choices)) h))

  pub held_renamed : (t : List Event) (unit : U) → IsHeld m t unit ↔ IsHeld (renamed rename m) t (rename unit)
  held_renamed t unit = (held_there t unit, held_back t unit)
