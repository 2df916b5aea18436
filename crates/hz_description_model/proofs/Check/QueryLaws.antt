-- Which query unit is reported under `ndfa`, and that there is none in a description without a fault.
use Rattle.std.proofs.Common.{◌≡◌, ℕ, suc, ◌≤◌, Bool, true, false, cond, List, [], ◌∷◌, ◌++◌, map, filter, Contains, All, Some, get_or, refl, sym, ap, ◌∙◌, subst, arith}
use Rattle.std.specs.Prelude.{◌↔◌, ◌==◌, IsTrue, IsFalse}
use Rattle.std.specs.List.{AllPairs}
use Rattle.std.proofs.lemmas.Bool.{cond_both, both_ways, le-leb}
use Rattle.std.proofs.lemmas.List.Elements.{All-nil, All-cons, All-map, All-contains, All-head, All-tail, Contains-get_or}
use Rattle.std.proofs.lemmas.List.Kept.{AllPairs-cons, AllPairs-filter}
use Rattle.std.proofs.lemmas.Option.{none-some, same_Some}
use Rattle.hz_base_model.proofs.Ascending.{AllPairs-head, AllPairs-tail}
use Rattle.hz_base_model.proofs.Elements.{Contains-nil, Contains-head, Contains-tail, Contains-filter, Contains-from_filter}
use Rattle.hz_description_model.specs.Reading.Descriptions.{Description, UnitItem}
use Rattle.hz_description_model.specs.Reading.DescriptionShape.{IsCheckable}
use Rattle.hz_description_model.specs.Check.CheckFaults.{CheckFault, IsFirst, IsSound, faults_of_meanings, unit_site, query_units, queries_under_ndfa}
use Rattle.hz_description_model.specs.Check.CheckedParts.{unit_items_in, places_where, queries_in, automaton_parts, automata_from, automata_of, automaton_names}
use Rattle.hz_description_model.specs.Check.CheckedShape.{AskNothingUnderNdfa}
use Rattle.hz_description_model.specs.Check.Places.{Known, automaton_number}
use Rattle.hz_description_model.specs.Check.Sites.{Site, earlier, earliest}
use Rattle.hz_description_model.specs.Check.ReportedPlaces.{TellsFirstQuery}
use Rattle.hz_description_model.proofs.Check.KeptLaws.{none_stands}

-- of sites in order the first is the earliest
earliest_in_order : (s : Site) (sites : List Site) → AllPairs (λ (a b : Site). a.form ≤ b.form) (s ∷ sites) → earliest (s ∷ sites) ≡ Some s
earliest_in_order s [] ordered = refl
earliest_in_order s (t ∷ sites) ordered =
    let later = earliest_in_order t sites (AllPairs-tail (λ (a b : Site). a.form ≤ b.form) s (t ∷ sites) ordered) in
    let low : s.form ≤ t.form = All-head (λ (b : Site). s.form ≤ b.form) t sites (AllPairs-head (λ (a b : Site). a.form ≤ b.form) s (t ∷ sites) ordered) in
    ap (earlier (Some s)) later ∙ ap (λ b. cond b (Some s) (Some t)) (le-leb s.form t.form low)

module _ {A : Type 0} (test : A → Bool) where
  first_passing : (xs : List A) (y : A) (ys : List A) → filter test xs ≡ y ∷ ys → IsFirst (λ x. IsTrue (test x)) xs y
  first_passing [] y ys e = absurd (cc)
  first_passing (x ∷ xs) y ys e = by_test (test x) refl e (first_passing xs y ys)
    where
      by_test : (b : Bool) → test x ≡ b → cond b (x ∷ filter test xs) (filter test xs) ≡ y ∷ ys → (filter test xs ≡ y ∷ ys → IsFirst (λ x. IsTrue (test x)) xs y) → IsFirst (λ x. IsTrue (test x)) (x ∷ xs) y
      by_test true passes e later =
          let same : x ≡ y = cc in
          subst (IsFirst (λ x. IsTrue (test x)) (x ∷ xs)) same (record { before = []; after = xs; parts = refl; holds = passes; others = All-nil (λ x. IsTrue (test x) → ⊥) })
      by_test false fails e later =
          let rest = later e in
          record { before = x ∷ rest.before; after = rest.after; parts = ap (λ (zs : List A). x ∷ zs) rest.parts; holds = rest.holds; others = All-cons (λ x. IsTrue (test x) → ⊥) x rest.before (λ h. both_ways (test x) fails h) rest.others }

  passing_first : (before : List A) (x : A) (after : List A) → All (λ y. IsTrue (test y) → ⊥) before → test x ≡ true → filter test (before ++ x ∷ after) ≡ x ∷ filter test after
  passing_first [] x after others passes = ap (λ b. cond b (x ∷ filter test after) (filter test after)) passes
  passing_first (y ∷ before) x after others passes =
      let rest = passing_first before x after (All-tail (λ y. IsTrue (test y) → ⊥) y before others) passes in
      cond_both (test y) (y ∷ filter test (before ++ x ∷ after)) (filter test (before ++ x ∷ after)) (λ zs. zs ≡ x ∷ filter test after)
      (λ good. absurd (All-head (λ y. IsTrue (test y) → ⊥) y before others good))
      (λ _. rest)

module _ (d : Description) where
  abbrev IsQuery : UnitItem → Type 0
  IsQuery u = IsTrue u.query

  abbrev queries_reported : Bool → List Site
  queries_reported b = cond b (map unit_site (query_units d)) []

  module _ (formed : IsCheckable d) where
    ordered : AllPairs (λ (a b : Site). a.form ≤ b.form) (map unit_site (query_units d))
    ordered = sites_ordered (query_units d) (AllPairs-filter (λ a b. a.form ≤ b.form) (λ (u : UnitItem). u.query) d.units formed.units_in_order)
      where
        sites_ordered : (us : List UnitItem) → AllPairs (λ (a b : UnitItem). a.form ≤ b.form) us → AllPairs (λ (a b : Site). a.form ≤ b.form) (map unit_site us)
        sites_ordered [] h = λ i j e before within. absurd (omega arith)
        sites_ordered (u ∷ us) h = AllPairs-cons (λ (a b : Site). a.form ≤ b.form) (unit_site u) (map unit_site us)
            (All-map (λ (b : Site). u.form ≤ b.form) unit_site us (AllPairs-head (λ (a b : UnitItem). a.form ≤ b.form) u us h))
            (sites_ordered us (AllPairs-tail (λ (a b : UnitItem). a.form ≤ b.form) u us h))

    first_reported_of : (s : Site) (us : List UnitItem) → query_units d ≡ us → earliest (map unit_site us) ≡ Some s → (u : UnitItem) × IsFirst IsQuery d.units u × (s ≡ unit_site u)
    first_reported_of s [] is e = absurd (none-some s e)
    first_reported_of s (u ∷ us) is e =
        let there = earliest_in_order (unit_site u) (map unit_site us) (subst (λ (us : List UnitItem). AllPairs (λ (a b : Site). a.form ≤ b.form) (map unit_site us)) is ordered) in
        (u, first_passing (λ (u : UnitItem). u.query) d.units u us is, same_Some s (unit_site u) (sym e ∙ there))

    -- the first of those that are listed is reported
    pub first_listed : (u : UnitItem) (us : List UnitItem) → IsTrue (d.options).ndfa → query_units d ≡ u ∷ us → earliest (queries_under_ndfa d) ≡ Some (unit_site u)
    first_listed u us stands is =
        let first = earliest_in_order (unit_site u) (map unit_site us) (subst (λ (us : List UnitItem). AllPairs (λ (a b : Site). a.form ≤ b.form) (map unit_site us)) is ordered) in
        ap (λ b. earliest (queries_reported b)) stands ∙ (ap (λ (us : List UnitItem). earliest (map unit_site us)) is ∙ first)

    pub first_query : (s : Site) → earliest (queries_under_ndfa d) ≡ Some s ↔ TellsFirstQuery d s
    first_query s = (there, back)
      where
        there : earliest (queries_under_ndfa d) ≡ Some s → TellsFirstQuery d s
        there e = by_option ((d.options).ndfa) refl e
          where
            by_option : (b : Bool) → (d.options).ndfa ≡ b → earliest (queries_reported b) ≡ Some s → TellsFirstQuery d s
            by_option true is e = let found = first_reported_of s (query_units d) refl e in record { ndfa = is; u = found.0; first = found.1; is = found.2 }
            by_option false is e = absurd (none-some s e)

        back : TellsFirstQuery d s → earliest (queries_under_ndfa d) ≡ Some s
        back t =
            let f = t.first in
            let us : query_units d ≡ t.u ∷ filter (λ u. u.query) f.after = ap (filter (λ (u : UnitItem). u.query)) f.parts ∙ passing_first (λ (u : UnitItem). u.query) f.before t.u f.after f.others f.holds in
            first_listed t.u (filter (λ u. u.query) f.after) t.ndfa us ∙ ap Some (sym t.is)

  -- with the option there are none in a description without a fault
  module _ (known : Known) (sound : IsSound d known) where
    pub no_query : IsTrue (d.options).ndfa → query_units d ≡ []
    no_query stands = unmade (query_units d) (ap queries_reported (sym stands) ∙ none_stands (faults_of_meanings d known sound.order) sound.free 11 (record { fault = CheckFault.bypass_twice; sites = [] }) (omega arith))
      where
        unmade : (us : List UnitItem) → map unit_site us ≡ [] → us ≡ []
        unmade [] e = refl
        unmade (u ∷ us) e = absurd (cc)

    pub no_query_unit : IsTrue (d.options).ndfa → All (λ u. IsFalse u.query) d.units
    no_query_unit stands = λ k e within. by_test (get_or d.units k e) (Contains-get_or d.units k e within) ((get_or d.units k e).query) refl
      where
        by_test : (u : UnitItem) → Contains d.units u → (b : Bool) → u.query ≡ b → b ≡ false
        by_test u there true is = absurd (Contains-nil u (subst (λ (us : List UnitItem). Contains us u) (no_query stands) (Contains-filter (λ (u : UnitItem). u.query) u is d.units there)))
        by_test u there false is = refl

    no_places : (n : ℕ) (us : List UnitItem) → ((u : UnitItem) → Contains us u → u.query ≡ false) → places_where (λ u. u.query) n us ≡ []
    no_places n [] none = refl
    no_places n (u ∷ us) none =
        ap (λ b. cond b (n ∷ places_where (λ u. u.query) (suc n) us) (places_where (λ u. u.query) (suc n) us)) (none u (Contains-head u us))
        ∙ no_places (suc n) us (λ v there. none v (Contains-tail u v us there))

    pub asks_nothing : AskNothingUnderNdfa (d.options).ndfa (automata_of d)
    asks_nothing stands = from 0 (automaton_names d)
      where
        none_in : (n : ℕ) → queries_in d n ≡ []
        none_in n = no_places 0 (unit_items_in d n) (λ u there. All-contains (λ u. IsFalse u.query) d.units u (no_query_unit stands) (Contains-from_filter (λ u. automaton_number d u.automaton == n) u d.units there).0)

        from : (n : ℕ) (names : List (List ℕ)) → All (λ a. a.queries ≡ []) (automata_from d n names)
        from n [] = All-nil (λ a. a.queries ≡ [])
        from n (name ∷ names) = All-cons (λ a. a.queries ≡ []) (automaton_parts d n name) (automata_from d (suc n) names) (none_in n) (from (suc n) names)
