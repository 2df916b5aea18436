-- Faults of names that are reported by name spaces, automata and sets, fault by fault.
use Rattle.std.proofs.Common.{◌≡◌, ◌≢◌, inl, inr, ⊎_elim, ℕ, Bool, true, false, cond, List, [], ◌∷◌, ◌++◌, map, filter, length, Contains, Option, Some, None, refl, sym, ap, ◌∙◌, subst, arith}
use Rattle.std.specs.Prelude.{◌==◌, ◌↔◌, codes, option_and_then, is_none, if◌then◌else◌}
use Rattle.std.specs.List.{flat_map, filter_map}
use Rattle.std.specs.Str.{bytes_eq}
use Rattle.std.proofs.lemmas.Bool.{both_ways, eq-eqb, cond_both, false_from_ne_true, eqb-true}
use Rattle.std.proofs.lemmas.Slice.Eq.{bytes_eq-Decides}
use Rattle.std.proofs.lemmas.List.Elements.{Contains-append_left, Contains-append_right, Contains-append_cases}
use Rattle.std.proofs.lemmas.Option.{none-some, same_Some}
use Rattle.hz_base_model.proofs.Elements.{Contains-nil, Contains-head, Contains-filter, Contains-from_filter}
use Rattle.hz_description_model.specs.Reservations.Sets.{SetKind, exclusion, presence, final_presence, absence, final_absence}
use Rattle.hz_description_model.specs.Reading.Descriptions.{Description, AutomatonItem, UnitItem, SetItem}
use Rattle.hz_description_model.specs.Check.CheckFaults.{names_of_set, home, same_home, strangers, sets_across_automata, automaton_sites, unit_sites, unit_site, reservation_sites, class_sites, attribute_sites, sites_of, repeated_values, second_definitions, reserved_names, unknown_automaton_of, unknown_automata, homeless, units_without_automaton, is_exclusion, units_of_patterns, self_excluded, self_exclusions}
use Rattle.hz_description_model.specs.Check.Sites.{Site, is_among, repeated}
use Rattle.hz_description_model.specs.Check.ReportedPlaces.{StandsBefore}
use Rattle.hz_description_model.proofs.Check.KeptLaws.{among, from_among}
use Rattle.hz_description_model.proofs.Check.PlaceLaws.{from_filter_map}
use Rattle.hz_description_model.proofs.Check.ReportedLaws.{second_names}
use Rattle.hz_laws.specs.Names.NameFaults.{IsNameSpace, IsSecondName, IsReservedName, IsUnknownAutomaton, IsWithoutAutomaton, IsSelfExclusion, IsStranger, IsAt, site_at}
use Rattle.hz_laws.proofs.Names.NamesAt.{site_reported, among_items, kept}
use Rattle.hz_pipeline_model.proofs.Decidable.FlatLists.{from_flat_map, in_flat_map}
use Rattle.hz_laws.proofs.Names.Listing.{in_filter_map, reported_tells, tells_reported}

-- Names that stand twice.

-- where a name is in one of six lists
by_list : (a b c e f g : List Site) (s : Site) (P : Type 0) → (Contains a s → P) → (Contains b s → P) → (Contains c s → P) → (Contains e s → P) → (Contains f s → P) → (Contains g s → P) → Contains (a ++ b ++ c ++ e ++ f ++ g) s → P
by_list a b c e f g s P in_a in_b in_c in_e in_f in_g k = ⊎_elim
    (λ (k : Contains (a ++ b ++ c ++ e ++ f) s). ⊎_elim
    (λ (k : Contains (a ++ b ++ c ++ e) s). ⊎_elim
    (λ (k : Contains (a ++ b ++ c) s). ⊎_elim
    (λ (k : Contains (a ++ b) s). ⊎_elim in_a in_b (Contains-append_cases a b s k))
    in_c (Contains-append_cases (a ++ b) c s k))
    in_e (Contains-append_cases (a ++ b ++ c) e s k))
    in_f (Contains-append_cases (a ++ b ++ c ++ e) f s k))
    in_g (Contains-append_cases (a ++ b ++ c ++ e ++ f) g s k)

-- what is reported of one list, and what stands twice in it
second_in : (d : Description) (others sites : List Site) → IsNameSpace d others sites → (s : Site) → Contains (repeated others [] sites) s → IsSecondName d s
second_in d others sites space s c =
    let t = reported_tells (StandsBefore others) (λ x. x) [] sites (repeated others [] sites) (second_names others sites) s c in
    record {
      others = others;
      sites = sites;
      before = t.front;
      after = t.after;
      space = space;
      parts = subst (λ (x : Site). sites ≡ t.front ++ x ∷ t.after) t.is t.parts;
      second = subst (λ (x : Site). StandsBefore others t.front x) t.is t.wrong;
    }

in_list : (d : Description) (s : Site) (h : IsSecondName d s) → Contains (repeated h.others [] h.sites) s
in_list d s h = tells_reported (StandsBefore h.others) (λ x. x) [] h.sites (repeated h.others [] h.sites) (second_names h.others h.sites) s
    (record { front = h.before; item = s; after = h.after; parts = h.parts; wrong = h.second; is = refl })

-- the lists of the names that are reported, name space by name space
abbrev automata_twice : Description → List Site
automata_twice d = repeated [] [] (automaton_sites d)

abbrev units_twice : Description → List Site
units_twice d = repeated (reservation_sites d) [] (unit_sites d)

abbrev reservations_twice : Description → List Site
reservations_twice d = repeated (unit_sites d) [] (reservation_sites d)

abbrev classes_twice : Description → List Site
classes_twice d = repeated [] [] (class_sites d)

abbrev attributes_twice : Description → List Site
attributes_twice d = repeated [] [] (attribute_sites d)

abbrev values_twice : Description → List Site
values_twice d = flat_map repeated_values d.attributes

of_value : (d : Description) (s : Site) → Contains (values_twice d) s → IsSecondName d s
of_value d s k =
    let (a, there, reported) = from_flat_map repeated_values d.attributes s k in
    second_in d [] (sites_of a.line a.form a.values) (IsNameSpace.of_values {a = a} there) s reported

-- what the first lists tell is reported
of_two : (d : Description) (s : Site) → Contains (automata_twice d ++ units_twice d) s → Contains (automata_twice d ++ units_twice d ++ reservations_twice d ++ classes_twice d) s
of_two d s k = Contains-append_left (automata_twice d ++ units_twice d ++ reservations_twice d) (classes_twice d) s (Contains-append_left (automata_twice d ++ units_twice d) (reservations_twice d) s k)

of_four : (d : Description) (s : Site) → Contains (automata_twice d ++ units_twice d ++ reservations_twice d ++ classes_twice d) s → Contains (second_definitions d) s
of_four d s k = Contains-append_left (automata_twice d ++ units_twice d ++ reservations_twice d ++ classes_twice d ++ attributes_twice d) (values_twice d) s
    (Contains-append_left (automata_twice d ++ units_twice d ++ reservations_twice d ++ classes_twice d) (attributes_twice d) s k)

by_space : (d : Description) (s : Site) (others sites : List Site) → IsNameSpace d others sites → Contains (repeated others [] sites) s → Contains (second_definitions d) s
by_space d s _ _ IsNameSpace.of_automata k = of_four d s (of_two d s (Contains-append_left (automata_twice d) (units_twice d) s k))
by_space d s _ _ IsNameSpace.of_units k = of_four d s (of_two d s (Contains-append_right (automata_twice d) (units_twice d) s k))
by_space d s _ _ IsNameSpace.of_reservations k = of_four d s
    (Contains-append_left (automata_twice d ++ units_twice d ++ reservations_twice d) (classes_twice d) s (Contains-append_right (automata_twice d ++ units_twice d) (reservations_twice d) s k))
by_space d s _ _ IsNameSpace.of_classes k = of_four d s (Contains-append_right (automata_twice d ++ units_twice d ++ reservations_twice d) (classes_twice d) s k)
by_space d s _ _ IsNameSpace.of_attributes k = Contains-append_left (automata_twice d ++ units_twice d ++ reservations_twice d ++ classes_twice d ++ attributes_twice d) (values_twice d) s
    (Contains-append_right (automata_twice d ++ units_twice d ++ reservations_twice d ++ classes_twice d) (attributes_twice d) s k)
by_space d s _ _ (IsNameSpace.of_values {a = a} there) k = Contains-append_right (automata_twice d ++ units_twice d ++ reservations_twice d ++ classes_twice d ++ attributes_twice d) (values_twice d) s
    (in_flat_map repeated_values d.attributes a s there k)

pub second_name : (d : Description) (s : Site) → Contains (second_definitions d) s ↔ IsSecondName d s
second_name d s = (
  by_list (automata_twice d) (units_twice d) (reservations_twice d) (classes_twice d) (attributes_twice d) (values_twice d) s (IsSecondName d s)
      (second_in d [] (automaton_sites d) IsNameSpace.of_automata s)
      (second_in d (reservation_sites d) (unit_sites d) IsNameSpace.of_units s)
      (second_in d (unit_sites d) (reservation_sites d) IsNameSpace.of_reservations s)
      (second_in d [] (class_sites d) IsNameSpace.of_classes s)
      (second_in d [] (attribute_sites d) IsNameSpace.of_attributes s)
      (of_value d s),
  λ h. by_space d s h.others h.sites h.space (in_list d s h),
)

-- Reserved names.

abbrev is_nothing : Site → Bool
is_nothing s = bytes_eq s.name (codes "nothing")

called_nothing : (sites : List Site) (s : Site) → Contains (filter is_nothing sites) s ↔ (Contains sites s × (s.name ≡ codes "nothing"))
called_nothing sites s = (
  λ k. let found = Contains-from_filter is_nothing s sites k in (found.0, (bytes_eq-Decides s.name (codes "nothing")).0 found.1),
  λ h. Contains-filter is_nothing s ((bytes_eq-Decides s.name (codes "nothing")).1 h.1) sites h.0,
)

pub reserved_name : (d : Description) (s : Site) → Contains (reserved_names d) s ↔ IsReservedName d s
reserved_name d s = (
  λ c. ⊎_elim
      (λ (k : Contains (filter is_nothing (unit_sites d)) s). let found = (called_nothing (unit_sites d) s).0 k in record { there = inl found.0; reserved = found.1 })
      (λ (k : Contains (filter is_nothing (reservation_sites d)) s). let found = (called_nothing (reservation_sites d) s).0 k in record { there = inr found.0; reserved = found.1 })
      (Contains-append_cases (filter is_nothing (unit_sites d)) (filter is_nothing (reservation_sites d)) s c),
  λ h. ⊎_elim
      (λ (k : Contains (unit_sites d) s). Contains-append_left (filter is_nothing (unit_sites d)) (filter is_nothing (reservation_sites d)) s ((called_nothing (unit_sites d) s).1 (k, h.reserved)))
      (λ (k : Contains (reservation_sites d) s). Contains-append_right (filter is_nothing (unit_sites d)) (filter is_nothing (reservation_sites d)) s ((called_nothing (reservation_sites d) s).1 (k, h.reserved)))
      h.there,
)

-- Unknown automata.

abbrev automaton_names : Description → List (List ℕ)
automaton_names d = map (λ a. a.name) d.automata

no_automaton : (d : Description) (name : List ℕ) → is_among name (automaton_names d) ≡ false ↔ ((a : AutomatonItem) → Contains d.automata a → a.name ≢ name)
no_automaton d name = among_items (λ (a : AutomatonItem). a.name) d.automata name

unknown_of : (d : Description) (s : Site) (u : UnitItem) → Contains d.units u → (o : Option (List ℕ)) → u.automaton ≡ o
    → option_and_then (λ name. if is_among name (automaton_names d) then None else Some (site_at u.line u.form name)) o ≡ Some s → IsUnknownAutomaton d s
unknown_of d s u there None e is = absurd (none-some s is)
unknown_of d s u there (Some name) e is = cond_both (is_among name (automaton_names d)) None (Some (site_at u.line u.form name)) (λ (o : Option Site). o ≡ Some s → IsUnknownAutomaton d s)
    (λ _ h. absurd (none-some s h))
    (λ fails h.
    let made : site_at u.line u.form name ≡ s = same_Some (site_at u.line u.form name) s h in
    let same : name ≡ s.name = ap (λ (x : Site). x.name) made in
    record {
      u = u;
      there = there;
      named = e ∙ ap Some same;
      place = (sym (ap (λ (x : Site). x.line) made), sym (ap (λ (x : Site). x.form) made));
      unknown = (no_automaton d s.name).0 (ap (λ n. is_among n (automaton_names d)) (sym same) ∙ fails);
    })
    is

pub unknown_automaton : (d : Description) (s : Site) → Contains (unknown_automata d) s ↔ IsUnknownAutomaton d s
unknown_automaton d s = (there, back)
  where
    there : Contains (unknown_automata d) s → IsUnknownAutomaton d s
    there c =
        let (u, stands, is) = from_filter_map (unknown_automaton_of (automaton_names d)) d.units s c in
        unknown_of d s u stands u.automaton refl is

    back : IsUnknownAutomaton d s → Contains (unknown_automata d) s
    back h =
        let fails = (no_automaton d s.name).1 h.unknown in
        let made : ◌≡◌ {A = Site} (site_at (h.u).line (h.u).form s.name) s = λ i. record { line = sym (h.place).0 i; form = sym (h.place).1 i; name = s.name } in
        let reported : unknown_automaton_of (automaton_names d) h.u ≡ Some s =
        ap (λ (o : Option (List ℕ)). option_and_then (λ name. if is_among name (automaton_names d) then None else Some (site_at (h.u).line (h.u).form name)) o) h.named
        ∙ subst (λ (b : Bool). cond b None (Some (site_at (h.u).line (h.u).form s.name)) ≡ Some s) (sym fails) (ap Some made) in
        in_filter_map (unknown_automaton_of (automaton_names d)) d.units h.u s h.there reported

-- Units without an automaton.

some_item : {A : Type 0} (xs : List A) → (length xs == 0) ≡ false → (x : A) × Contains xs x
some_item [] e = let bad : true ≡ false = e in absurd (cc)
some_item (x ∷ xs) e = (x, Contains-head x xs)

not_none : {A : Type 0} (xs : List A) (x : A) → Contains xs x → (length xs == 0) ≡ false
not_none xs x there = false_from_ne_true (length xs == 0) (λ e. let none = eqb-true (length xs) 0 e in omega (arith, there.1, none))

homeless_of : (s : Site) (u : UnitItem) (o : Option (List ℕ)) → u.automaton ≡ o → cond (is_none o) (Some (unit_site u)) None ≡ Some s → (u.automaton ≡ None) × (s ≡ unit_site u)
homeless_of s u None e is = (e, sym (same_Some (unit_site u) s is))
homeless_of s u (Some name) e is = absurd (none-some s is)

pub without_automaton : (d : Description) (s : Site) → Contains (units_without_automaton d) s ↔ IsWithoutAutomaton d s
without_automaton d s = (there, back)
  where
    there : Contains (units_without_automaton d) s → IsWithoutAutomaton d s
    there c = cond_both (length d.automata == 0) [] (filter_map homeless d.units) (λ (reported : List Site). Contains reported s → IsWithoutAutomaton d s)
        (λ _ k. absurd (Contains-nil s k))
        (λ some k.
        let first = some_item d.automata some in
        let (u, stands, is) = from_filter_map homeless d.units s k in
        let none = homeless_of s u u.automaton refl is in
        record { a = first.0; defined = first.1; u = u; there = stands; named = none.0; is = none.1 })
        c

    back : IsWithoutAutomaton d s → Contains (units_without_automaton d) s
    back h =
        let reported : homeless h.u ≡ Some s = ap (λ (o : Option (List ℕ)). cond (is_none o) (Some (unit_site h.u)) None) h.named ∙ ap Some (sym h.is) in
        subst (λ (b : Bool). Contains (cond b [] (filter_map homeless d.units)) s) (sym (not_none d.automata h.a h.defined)) (in_filter_map homeless d.units h.u s h.there reported)

-- Self exclusions.

exclusion_is : (k : SetKind) → is_exclusion k ≡ true → k ≡ exclusion
exclusion_is exclusion e = refl
exclusion_is presence e = absurd (cc)
exclusion_is final_presence e = absurd (cc)
exclusion_is absence e = absurd (cc)
exclusion_is final_absence e = absurd (cc)

-- the units of a set that stand in its second string too
abbrev in_both : SetItem → List (List ℕ)
in_both e = filter (λ name. is_among name (units_of_patterns e)) e.units

pub excluded_itself : (d : Description) (s : Site) → Contains (self_exclusions d) s ↔ IsSelfExclusion d s
excluded_itself d s = (there, back)
  where
    there : Contains (self_exclusions d) s → IsSelfExclusion d s
    there c =
        let (e, stands, reported) = from_flat_map self_excluded d.sets s c in
        cond_both (is_exclusion e.kind) (sites_of e.line e.form (in_both e)) [] (λ (sites : List Site). Contains sites s → IsSelfExclusion d s)
        (λ kind k.
        let named = (site_reported e.line e.form (in_both e) s).0 k in
        let (unit, good) = Contains-from_filter (λ name. is_among name (units_of_patterns e)) s.name e.units named.0 in
        let (pattern, other, again) = from_flat_map (λ (pattern : List (List ℕ)). pattern) e.patterns s.name (from_among s.name (units_of_patterns e) good) in
        record { e = e; there = stands; kind = exclusion_is e.kind kind; unit = unit; pattern = pattern; other = other; again = again; place = named.1 })
        (λ _ k. absurd (Contains-nil s k))
        reported

    back : IsSelfExclusion d s → Contains (self_exclusions d) s
    back h =
        let e = h.e in
        let good = among s.name (units_of_patterns e) (in_flat_map (λ (pattern : List (List ℕ)). pattern) e.patterns h.pattern s.name h.other h.again) in
        let named = (site_reported e.line e.form (in_both e) s).1 (Contains-filter (λ name. is_among name (units_of_patterns e)) s.name good e.units h.unit, h.place) in
        in_flat_map self_excluded d.sets e s h.there (subst (λ (k : SetKind). Contains (cond (is_exclusion k) (sites_of e.line e.form (in_both e)) []) s) (sym h.kind) named)

-- Units of another automaton.

home_same : (a b : Option ℕ) → a ≡ b → same_home a b ≡ true
home_same None b e = subst (λ (o : Option ℕ). same_home None o ≡ true) e refl
home_same (Some a) b e = subst (λ (o : Option ℕ). same_home (Some a) o ≡ true) e (eq-eqb a a refl)

same_is : (a b : Option ℕ) → same_home a b ≡ true → a ≡ b
same_is None None e = refl
same_is None (Some b) e = absurd (cc)
same_is (Some a) None e = absurd (cc)
same_is (Some a) (Some b) e = ap Some (eqb-true a b e)

strangers_of : (d : Description) (s : Site) (e : SetItem) → Contains d.sets e → IsAt s e.line e.form → (names : List (List ℕ)) → names_of_set e ≡ names → Contains (strangers d names) s.name → IsStranger d s
strangers_of d s e there place [] is c = absurd (Contains-nil s.name c)
strangers_of d s e there place (first ∷ others) is c =
    let found = (kept (λ name. same_home (home d name) (home d first)) others s.name).0 c in
    record {
      e = e;
      there = there;
      first = first;
      others = others;
      names = is;
      named = found.0;
      apart = λ same. both_ways (same_home (home d s.name) (home d first)) found.1 (home_same (home d s.name) (home d first) same);
      place = place;
    }

pub stranger : (d : Description) (s : Site) → Contains (sets_across_automata d) s ↔ IsStranger d s
stranger d s = (there, back)
  where
    there : Contains (sets_across_automata d) s → IsStranger d s
    there c =
        let (e, stands, reported) = from_flat_map (λ s. sites_of s.line s.form (strangers d (names_of_set s))) d.sets s c in
        let found = (site_reported e.line e.form (strangers d (names_of_set e)) s).0 reported in
        strangers_of d s e stands found.1 (names_of_set e) refl found.0

    back : IsStranger d s → Contains (sets_across_automata d) s
    back h =
        let differ = false_from_ne_true (same_home (home d s.name) (home d h.first)) (λ k. h.apart (same_is (home d s.name) (home d h.first) k)) in
        let named = (kept (λ name. same_home (home d name) (home d h.first)) h.others s.name).1 (h.named, differ) in
        in_flat_map (λ s. sites_of s.line s.form (strangers d (names_of_set s))) d.sets h.e s h.there
        ((site_reported (h.e).line (h.e).form (strangers d (names_of_set h.e)) s).1 (subst (λ (names : List (List ℕ)). Contains (strangers d names) s.name) (sym h.names) named, h.place))
