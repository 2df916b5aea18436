-- Fitting in each automaton, and in all of them.
use Rattle.std.proofs.Common.{◌≡◌, ℕ, ⊎_elim, Bool, true, List, [], ◌++◌, map, filter, Contains, get_or, refl, sym, ap, ◌∙◌, subst, eq-eqb}
use Rattle.std.specs.Prelude.{◌↔◌, ◌==◌}
use Rattle.std.specs.List.{list_all}
use Rattle.std.proofs.lemmas.Bool.{and_from, and_parts, eqb-true}
use Rattle.std.proofs.lemmas.List.Elements.{Contains-get_or, Contains-append_left, Contains-append_right, Contains-append_cases}
use Rattle.std.proofs.lemmas.List.Sums.{list_all-from_AllPass, AllPass-from_list_all}
use Rattle.std.proofs.lemmas.List.Kept.{AllPairs-filter}
use Rattle.hz_base_model.specs.Pairs.{Pair, SamePairs, later, placed}
use Rattle.hz_description_model.specs.Reservations.Automata.{UnitPlace, ascending, cut, inside, is_of}
use Rattle.hz_description_model.specs.Reservations.AlternativeLists.{IsAscending}
use Rattle.hz_description_model.specs.Reservations.Inside.{unit_numbers, inside_statement, are_inside, is_inside, IsStatementOf}
use Rattle.hz_description_model.specs.Reservations.Sets.{Statement, Holds, HoldsSome, HoldsPattern, AllowsIn, Fits}
use Rattle.hz_base_model.proofs.Elements.{Contains-nil, Contains-map, Contains-from_map, Contains-filter, Contains-from_filter}
use Rattle.hz_description_model.proofs.Reservations.AscendingLaws.{Precedes, IsAscending-ascending, same_ascending, ascending_same, ascending_itself}
use Rattle.hz_pipeline_model.proofs.Pipelines.Choices.{Alike, alike_back}

passes_all : {A : Type 0} (p : A → Bool) (xs : List A) → ((x : A) → Contains xs x → p x ≡ true) → list_all p xs ≡ true
passes_all p xs each = list_all-from_AllPass p xs (λ k d within. each (get_or xs k d) (Contains-get_or xs k d within))

passes_each : {A : Type 0} (p : A → Bool) (xs : List A) (x : A) → list_all p xs ≡ true → Contains xs x → p x ≡ true
passes_each p xs x all h = ap p (sym h.2) ∙ AllPass-from_list_all p xs all h.0 x h.1

module _ (automaton : ℕ) where
  -- a unit of the automaton
  abbrev at : ℕ → UnitPlace
  at unit = record { automaton = automaton; unit = unit }

  abbrev pub at_pair : Pair ℕ → Pair UnitPlace
  at_pair p = record { unit = at p.unit; cycle = p.cycle }

  -- the pairs of the automaton's units, by the units' numbers
  pub record IsSeen (all : List (Pair UnitPlace)) (pairs : List (Pair ℕ)) : Type 0 where
    pub same : (p : Pair ℕ) → Contains pairs p ↔ Contains all (at_pair p)

  pub at_inside : (p : Pair UnitPlace) → p.unit.automaton ≡ automaton → at_pair (inside p) ≡ p
  at_inside p e = ap (λ (a : ℕ). record { unit = record { automaton = a; unit = p.unit.unit }; cycle = p.cycle }) (sym e)

  pub seen_nil : IsSeen [] []
  seen_nil = record { same = λ p. (λ h. absurd (Contains-nil p h), λ h. absurd (Contains-nil (at_pair p) h)) }

  pub seen_append : (all more : List (Pair UnitPlace)) (pairs others : List (Pair ℕ)) → IsSeen all pairs → IsSeen more others → IsSeen (all ++ more) (pairs ++ others)
  seen_append all more pairs others a b = record {
    same = λ p. (
      λ h. ⊎_elim
          (λ (l : Contains pairs p). Contains-append_left all more (at_pair p) ((a.same p).0 l))
          (λ (r : Contains others p). Contains-append_right all more (at_pair p) ((b.same p).0 r))
          (Contains-append_cases pairs others p h),
      λ h. ⊎_elim
          (λ (l : Contains all (at_pair p)). Contains-append_left pairs others p ((a.same p).1 l))
          (λ (r : Contains more (at_pair p)). Contains-append_right pairs others p ((b.same p).1 r))
          (Contains-append_cases all more (at_pair p) h),
    );
  }

  pub seen_placed : (n : ℕ) (all : List (Pair UnitPlace)) (pairs : List (Pair ℕ)) → IsSeen all pairs → IsSeen (placed n all) (placed n pairs)
  seen_placed n all pairs seen = record {
    same = λ p. (
      λ h.
          let found = Contains-from_map (later n) pairs p h in
          subst (λ (q : Pair ℕ). Contains (placed n all) (at_pair q)) found.2 (Contains-map (later n) all (at_pair found.0) ((seen.same found.0).0 found.1)),
      λ h.
          let found = Contains-from_map (later n) all (at_pair p) h in
          let there = at_inside found.0 (ap (λ (q : Pair UnitPlace). q.unit.automaton) found.2) in
          let back : later n (inside found.0) ≡ p = ap inside found.2 in
          subst (λ (q : Pair ℕ). Contains (placed n pairs) q) back
          (Contains-map (later n) pairs (inside found.0) ((seen.same (inside found.0)).1 (subst (λ (q : Pair UnitPlace). Contains all q) (sym there) found.1))),
    );
  }

  pub seen_cut : (all : List (Pair UnitPlace)) → IsSeen all (cut automaton all)
  seen_cut all = record {
    same = λ p. (
      λ h.
          let found = Contains-from_map inside (filter (is_of automaton) (ascending all)) p h in
          let kept = Contains-from_filter (is_of automaton) found.0 (ascending all) found.1 in
          let there = (same_ascending all found.0).0 kept.0 in
          let of = eqb-true ((found.0).unit.automaton) automaton kept.1 in
          subst (λ (q : Pair UnitPlace). Contains all q) (sym (at_inside found.0 of) ∙ ap at_pair found.2) there,
      λ h. Contains-map inside (filter (is_of automaton) (ascending all)) (at_pair p)
          (Contains-filter (is_of automaton) (at_pair p) (eq-eqb automaton automaton refl) (ascending all) ((same_ascending all (at_pair p)).1 h)),
    );
  }

  -- the pairs of one automaton are seen one way
  pub seen_same : (all : List (Pair UnitPlace)) (pairs others : List (Pair ℕ)) → IsSeen all pairs → IsSeen all others → SamePairs pairs others
  seen_same all pairs others a b = λ p. (λ h. (b.same p).1 ((a.same p).0 h), λ h. (a.same p).1 ((b.same p).0 h))

  -- the pairs of the automaton, ascending
  abbrev kept : List (Pair UnitPlace) → List (Pair UnitPlace)
  kept z = filter (is_of automaton) (ascending z)

  kept_up : (z : List (Pair UnitPlace)) → IsAscending (kept z)
  kept_up z = AllPairs-filter Precedes (is_of automaton) (ascending z) (IsAscending-ascending z)

  kept_into : (z w : List (Pair UnitPlace)) → Alike automaton z w → (p : Pair UnitPlace) → Contains (kept z) p → Contains (kept w) p
  kept_into z w alike p h =
      let found = Contains-from_filter (is_of automaton) p (ascending z) h in
      let is = eqb-true p.unit.automaton automaton found.1 in
      Contains-filter (is_of automaton) p found.1 (ascending w) ((same_ascending w p).1 ((alike.same p is).0 ((same_ascending z p).0 found.0)))

  -- alternatives that agree on the automaton are cut alike
  pub alike_cut : (x y : List (Pair UnitPlace)) → Alike automaton x y → cut automaton x ≡ cut automaton y
  alike_cut x y alike = ap (map inside)
      (sym (ascending_itself (kept x) (kept_up x))
      ∙ (ascending_same (kept x) (kept y) (λ p. (kept_into x y alike p, kept_into y x (alike_back automaton x y alike) p))
      ∙ ascending_itself (kept y) (kept_up y)))

  pub cut_alike : (x y : List (Pair UnitPlace)) → cut automaton x ≡ cut automaton y → Alike automaton x y
  cut_alike x y e = record {
    same = λ p is. (into x y e p is, into y x (sym e) p is);
  }
    where
      into : (z w : List (Pair UnitPlace)) → cut automaton z ≡ cut automaton w → (p : Pair UnitPlace) → p.unit.automaton ≡ automaton → Contains z p → Contains w p
      into z w e p is h =
          let there = at_inside p is in
          let here = ((seen_cut z).same (inside p)).1 (subst (λ (q : Pair UnitPlace). Contains z q) (sym there) h) in
          subst (λ (q : Pair UnitPlace). Contains w q) there (((seen_cut w).same (inside p)).0 (subst (λ (ps : List (Pair ℕ)). Contains ps (inside p)) e here))

  -- What a statement of the automaton asks is what it asks by the units' numbers.
  module _ (s : Statement UnitPlace) (is : IsStatementOf automaton s) where
    -- held units, and the same by number
    abbrev ByNumber : (UnitPlace → Type 0) → (ℕ → Type 0) → Type 0
    ByNumber held numbers = (u : ℕ) → numbers u ↔ held (at u)

    at_unit : (u : UnitPlace) → u.automaton ≡ automaton → at u.unit ≡ u
    at_unit u e = ap (λ (a : ℕ). record { automaton = a; unit = u.unit }) (sym e)

    some_inside : (held : UnitPlace → Type 0) (numbers : ℕ → Type 0) → ByNumber held numbers → HoldsSome s.units held → HoldsSome (unit_numbers s.units) numbers
    some_inside held numbers alike (u, there, h) = (u.unit, Contains-map (λ (v : UnitPlace). v.unit) s.units u there, (alike u.unit).1 (subst held (sym (at_unit u (is.units u there))) h))

    some_outside : (held : UnitPlace → Type 0) (numbers : ℕ → Type 0) → ByNumber held numbers → HoldsSome (unit_numbers s.units) numbers → HoldsSome s.units held
    some_outside held numbers alike (n, there, h) =
        let found = Contains-from_map (λ (v : UnitPlace). v.unit) s.units n there in
        (found.0, found.1, subst held (ap at (sym found.2) ∙ at_unit found.0 (is.units found.0 found.1)) ((alike n).0 h))

    pattern_inside : (held : UnitPlace → Type 0) (numbers : ℕ → Type 0) → ByNumber held numbers → HoldsPattern s.patterns held → HoldsPattern (map unit_numbers s.patterns) numbers
    pattern_inside held numbers alike (pattern, there, each) = (
      unit_numbers pattern,
      Contains-map unit_numbers s.patterns pattern there,
      λ n h.
          let found = Contains-from_map (λ (v : UnitPlace). v.unit) pattern n h in
          (alike n).1 (subst held (sym (ap at (sym found.2) ∙ at_unit found.0 (is.patterns pattern there found.0 found.1))) (each found.0 found.1)),
    )

    pattern_outside : (held : UnitPlace → Type 0) (numbers : ℕ → Type 0) → ByNumber held numbers → HoldsPattern (map unit_numbers s.patterns) numbers → HoldsPattern s.patterns held
    pattern_outside held numbers alike (ns, there, each) =
        let found = Contains-from_map unit_numbers s.patterns ns there in (
          found.0,
          found.1,
          λ u h. subst held (at_unit u (is.patterns found.0 found.1 u h))
              ((alike u.unit).0 (each u.unit (subst (λ (ms : List ℕ). Contains ms u.unit) found.2 (Contains-map (λ (v : UnitPlace). v.unit) found.0 u h)))),
        )

    module _ (source added result : UnitPlace → Type 0) (source' added' result' : ℕ → Type 0) (so : ByNumber source source') (ad : ByNumber added added') (re : ByNumber result result') where
      allows_inside : AllowsIn s source added result → AllowsIn (inside_statement s) source' added' result'
      allows_inside h = record {
        excluded = λ k x y. h.excluded k (some_outside result result' re x) (pattern_outside result result' re y);
        present = λ k x. pattern_inside source source' so (h.present k (some_outside added added' ad x));
        finally_present = λ k x. pattern_inside result result' re (h.finally_present k (some_outside added added' ad x));
        absent = λ k x y. h.absent k (some_outside added added' ad x) (pattern_outside source source' so y);
        finally_absent = λ k x y. h.finally_absent k (some_outside added added' ad x) (pattern_outside result result' re y);
      }

      allows_outside : AllowsIn (inside_statement s) source' added' result' → AllowsIn s source added result
      allows_outside h = record {
        excluded = λ k x y. h.excluded k (some_inside result result' re x) (pattern_inside result result' re y);
        present = λ k x. pattern_outside source source' so (h.present k (some_inside added added' ad x));
        finally_present = λ k x. pattern_outside result result' re (h.finally_present k (some_inside added added' ad x));
        absent = λ k x y. h.absent k (some_inside added added' ad x) (pattern_inside source source' so y);
        finally_absent = λ k x y. h.finally_absent k (some_inside added added' ad x) (pattern_inside result result' re y);
      }

  all_inside : (s : Statement UnitPlace) → IsStatementOf automaton s → is_inside automaton s ≡ true
  all_inside s is = and_from (are_inside automaton s.units) (list_all (are_inside automaton) s.patterns)
      (passes_all (λ u. u.automaton == automaton) s.units (λ u h. eq-eqb u.automaton automaton (is.units u h)))
      (passes_all (are_inside automaton) s.patterns (λ pattern there. passes_all (λ u. u.automaton == automaton) pattern (λ u h. eq-eqb u.automaton automaton (is.patterns pattern there u h))))

  from_inside : (s : Statement UnitPlace) → is_inside automaton s ≡ true → IsStatementOf automaton s
  from_inside s h =
      let both = and_parts (are_inside automaton s.units) (list_all (are_inside automaton) s.patterns) h in
      record {
        units = λ u there. eqb-true u.automaton automaton (passes_each (λ u. u.automaton == automaton) s.units u both.0 there);
        patterns = λ pattern there u k. eqb-true u.automaton automaton (passes_each (λ u. u.automaton == automaton) pattern u (passes_each (are_inside automaton) s.patterns pattern both.1 there) k);
      }

  module _ (statements : List (Statement UnitPlace)) where
    abbrev pub restricted_statements : List (Statement ℕ)
    restricted_statements = map inside_statement (filter (is_inside automaton) statements)

    module _ (all added : List (Pair UnitPlace)) (pairs others : List (Pair ℕ)) (now : ℕ) (first : IsSeen all pairs) (second : IsSeen added others) where
      abbrev placed_seen : IsSeen (placed now added) (placed now others)
      placed_seen = seen_placed now added others second

      abbrev result_seen : IsSeen (all ++ placed now added) (pairs ++ placed now others)
      result_seen = seen_append all (placed now added) pairs (placed now others) first placed_seen

      -- what fits fits in the automaton
      pub fits_inside : Fits statements all added now → Fits restricted_statements pairs others now
      fits_inside h = record {
        apart = λ p x y. h.apart (at_pair p) ((first.same p).0 x) ((placed_seen.same p).0 y);
        allowed = λ s' is' cycle.
            let found = Contains-from_map inside_statement (filter (is_inside automaton) statements) s' is' in
            let kept = Contains-from_filter (is_inside automaton) found.0 statements found.1 in
            subst (λ (t : Statement ℕ). AllowsIn t (Holds pairs cycle) (Holds (placed now others) cycle) (Holds (pairs ++ placed now others) cycle)) found.2
            (allows_inside found.0 (from_inside found.0 kept.1) _ _ _ _ _ _
            (λ u. first.same (record { unit = u; cycle = cycle })) (λ u. placed_seen.same (record { unit = u; cycle = cycle })) (λ u. result_seen.same (record { unit = u; cycle = cycle }))
            (h.allowed found.0 kept.0 cycle));
      }

      -- what fits in the automaton is allowed by its statements, and apart there
      pub allowed_outside : Fits restricted_statements pairs others now → (s : Statement UnitPlace) → Contains statements s → IsStatementOf automaton s → (cycle : ℕ)
          → AllowsIn s (Holds all cycle) (Holds (placed now added) cycle) (Holds (all ++ placed now added) cycle)
      allowed_outside h s there is cycle =
          let kept = Contains-map inside_statement (filter (is_inside automaton) statements) s (Contains-filter (is_inside automaton) s (all_inside s is) statements there) in
          allows_outside s is _ _ _ _ _ _
          (λ u. first.same (record { unit = u; cycle = cycle })) (λ u. placed_seen.same (record { unit = u; cycle = cycle })) (λ u. result_seen.same (record { unit = u; cycle = cycle }))
          (h.allowed (inside_statement s) kept cycle)

      pub apart_outside : Fits restricted_statements pairs others now → (p : Pair UnitPlace) → p.unit.automaton ≡ automaton → Contains all p → Contains (placed now added) p → ⊥
      apart_outside h p is x y =
          let there = at_inside p is in
          h.apart (inside p) ((first.same (inside p)).1 (subst (λ (q : Pair UnitPlace). Contains all q) (sym there) x)) ((placed_seen.same (inside p)).1 (subst (λ (q : Pair UnitPlace). Contains (placed now added) q) (sym there) y))
