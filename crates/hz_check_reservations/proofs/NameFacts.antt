-- What holds of the names of a description where none is wrong.
use Rattle.std.proofs.Common.{◌≡◌, ℕ, zero, suc, ◌+◌, ◌<◌, ◌≤◌, ◌⊎◌, ⊎_elim, Bool, true, false, not, ◌&&◌, ◌||◌, cond, List, [], ◌∷◌, ◌++◌, get_or, map, filter, Contains, Option, Some, None, refl, sym, ap, ◌∙◌, subst, arith, slice_get}
use Rattle.std.specs.Prelude.{nat_lt, nat_le, is_some}
use Rattle.std.specs.List.{list_any, position_from, flat_map}
use Rattle.std.specs.Str.{bytes_eq}
use Rattle.std.proofs.lemmas.Bool.{cases_order, cond_both, or_parts, or_cases, or_left, or_right, and_from, lt-ltb, both_ways, not-false}
use Rattle.std.proofs.lemmas.List.Elements.{All-contains}
use Rattle.std.proofs.lemmas.List.Quantifiers.{position-Some}
use Rattle.std.proofs.lemmas.Option.{slice_get_within, get_or_from_slice_get, slice_get-get_or}
use Rattle.hz_base_model.proofs.Elements.{Contains-nil, Contains-head, Contains-tail, Contains-cons_cases, Contains-map, Contains-from_map}
use Rattle.hz_description_model.specs.Reservations.Alternatives.{Expression}
use Rattle.hz_description_model.specs.Check.CheckFaults.{CheckFault, faults_of_names, second_definitions, unknown_names, unit_sites, reservation_sites, is_unit, is_reservable, unknown_in_expression, sites_of, unknown_in_condition, automaton_sites, class_sites, attribute_sites, repeated_values, is_class, names_of_bypass, names_of_set}
use Rattle.hz_description_model.specs.Check.CountingOrder.{reservation_site}
use Rattle.hz_description_model.specs.Check.FirstReported.{Standing, first_reported, reported_at}
use Rattle.hz_description_model.specs.Reservations.NamesIn.{names_in}
use Rattle.hz_description_model.specs.Reading.Descriptions.{Description, UnitItem, ReservationItem, ClassItem}
use Rattle.hz_description_model.specs.Reading.DescriptionShape.{IsCheckable, IsCheckableReservation, IsForm, define_cpu_unit, define_reservation}
use Rattle.hz_base_model.specs.Lines.{place_of}
use Rattle.hz_description_model.specs.Check.Sites.{Site, is_among, is_preceded, earlier, earliest, repeated}
use Rattle.hz_check_reservations.proofs.FirstNames.{place_from_zero, bytes_eq-self, same_bytes}

-- no two places have one name
pub record AreApart (names : List (List ℕ)) : Type 0 where
  pub same : (i j : ℕ) (name : List ℕ) → slice_get names i ≡ Some name → slice_get names j ≡ Some name → i ≡ j

-- a name among others

some_position : (test : List ℕ → Bool) (i : ℕ) (names : List (List ℕ)) → is_some (position_from test i names) ≡ list_any test names
some_position test i [] = refl
some_position test i (n ∷ names) = by_test (test n) (some_position test (i + 1) names)
  where
    by_test : (b : Bool) → is_some (position_from test (i + 1) names) ≡ list_any test names → is_some (cond b (Some i) (position_from test (i + 1) names)) ≡ (b || list_any test names)
    by_test true rest = refl
    by_test false rest = rest

pub among_any : (name : List ℕ) (names : List (List ℕ)) → is_among name names ≡ list_any (bytes_eq name) names
among_any name names = ap is_some (place_from_zero name names) ∙ some_position (bytes_eq name) 0 names

pub among_cons : (name other : List ℕ) (names : List (List ℕ)) → is_among name (other ∷ names) ≡ (bytes_eq name other || is_among name names)
among_cons name other names = among_any name (other ∷ names) ∙ ap (λ (b : Bool). bytes_eq name other || b) (sym (among_any name names))

pub among_from_Contains : (name : List ℕ) (names : List (List ℕ)) → Contains names name → is_among name names ≡ true
among_from_Contains name [] h = absurd (Contains-nil name h)
among_from_Contains name (n ∷ names) h = among_cons name n names ∙ ⊎_elim
    (λ (e : n ≡ name). or_left (bytes_eq name n) (is_among name names) (ap (bytes_eq name) e ∙ bytes_eq-self name))
    (λ (k : Contains names name). or_right (bytes_eq name n) (is_among name names) (among_from_Contains name names k))
    (Contains-cons_cases n name names h)

pub Contains-from_among : (name : List ℕ) (names : List (List ℕ)) → is_among name names ≡ true → Contains names name
Contains-from_among name [] h = absurd (cc)
Contains-from_among name (n ∷ names) h = ⊎_elim
    (λ (e : bytes_eq name n ≡ true). subst (λ (x : List ℕ). Contains (x ∷ names) name) (same_bytes name n e) (Contains-head name names))
    (λ (k : is_among name names ≡ true). Contains-tail n name names (Contains-from_among name names k))
    (or_cases (bytes_eq name n) (is_among name names) (sym (among_cons name n names) ∙ h))

pub place_at : (name : List ℕ) (names : List (List ℕ)) (k : ℕ) → place_of name names ≡ Some k → slice_get names k ≡ Some name
place_at name names k h =
    let found = position-Some (bytes_eq name) names k [] h in
    slice_get-get_or names k [] found.0 ∙ ap Some (sym (same_bytes name (get_or names k []) found.1))

pub place_apart : (names : List (List ℕ)) → AreApart names → (i : ℕ) (name : List ℕ) → slice_get names i ≡ Some name → place_of name names ≡ Some i
place_apart names apart i name h = by_place (place_of name names) refl
  where
    there : is_some (place_of name names) ≡ true
    there = among_from_Contains name names (i, slice_get_within names i name h, get_or_from_slice_get names i name name h)

    by_place : (o : Option ℕ) → place_of name names ≡ o → place_of name names ≡ Some i
    by_place None e = let no : false ≡ true = sym (ap is_some e) ∙ there in absurd (cc)
    by_place (Some k) e = e ∙ ap Some (apart.same k i name (place_at name names k e) h)

-- no list of sites has one

none_earliest : (sites : List Site) → earliest sites ≡ None → sites ≡ []
none_earliest [] h = refl
none_earliest (s ∷ sites) h = absurd (some_first s (earliest sites) h)
  where
    some_first : (s : Site) (o : Option Site) → earlier (Some s) o ≡ None → ⊥
    some_first s None e = absurd (cc)
    some_first s (Some t) e = cond_both (nat_le s.form t.form) (Some s) (Some t) (λ (o : Option Site). o ≡ None → ⊥) (λ _ g. absurd (cc)) (λ _ g. absurd (cc)) e

pub none_standing : (s : Standing CheckFault) (others : List (Standing CheckFault)) → first_reported (s ∷ others) ≡ None → (s.sites ≡ []) × (first_reported others ≡ None)
none_standing s others h = by_site (earliest s.sites) refl h
  where
    by_site : (o : Option Site) → earliest s.sites ≡ o → reported_at s.fault o (first_reported others) ≡ None → (s.sites ≡ []) × (first_reported others ≡ None)
    by_site None e g = (none_earliest s.sites e, g)
    by_site (Some site) e g = absurd (cc)

pub standing_at : (all : List (Standing CheckFault)) → first_reported all ≡ None → (i : ℕ) (s : Standing CheckFault) → slice_get all i ≡ Some s → s.sites ≡ []
standing_at [] h i s e = absurd (cc)
standing_at (t ∷ all) h zero s e = let same : t ≡ s = cc in subst (λ (x : Standing CheckFault). x.sites ≡ []) same (none_standing t all h).0
standing_at (t ∷ all) h (suc i) s e = standing_at all (none_standing t all h).1 i s e

pub append_nil_parts : {A : Type 0} (xs ys : List A) → xs ++ ys ≡ [] → (xs ≡ []) × (ys ≡ [])
append_nil_parts [] ys h = (refl, h)
append_nil_parts (x ∷ xs) ys h = absurd (cc)

-- parts of joined lists of which all is nothing
third_of : {A : Type 0} (a b c d e f : List A) → a ++ b ++ c ++ d ++ e ++ f ≡ [] → (b ≡ []) × (c ≡ [])
third_of a b c d e f h =
    let five = append_nil_parts (a ++ b ++ c ++ d ++ e) f h in
    let four = append_nil_parts (a ++ b ++ c ++ d) e five.0 in
    let three = append_nil_parts (a ++ b ++ c) d four.0 in
    let two = append_nil_parts (a ++ b) c three.0 in
    ((append_nil_parts a b two.0).1, two.1)

first_two : {A : Type 0} (a b c d e : List A) → a ++ b ++ c ++ d ++ e ≡ [] → (a ≡ []) × (b ≡ [])
first_two a b c d e h =
    let four = append_nil_parts (a ++ b ++ c ++ d) e h in
    let three = append_nil_parts (a ++ b ++ c) d four.0 in
    let two = append_nil_parts (a ++ b) c three.0 in
    append_nil_parts a b two.0

-- the names of sites
abbrev pub site_names : List Site → List (List ℕ)
site_names sites = map (λ s. s.name) sites

-- where no name repeats, each is new after those before it
pub record AreNew (others : List Site) (before : List (List ℕ)) (sites : List Site) : Type 0 where
  pub new : (k : ℕ) (name : List ℕ) → slice_get (site_names sites) k ≡ Some name → is_among name before ≡ false
  pub apart : AreApart (site_names sites)
  pub free : (s : Site) → Contains sites s → is_preceded others s ≡ false

none_repeated : (others : List Site) (before : List (List ℕ)) (s : Site) (sites : List Site) → repeated others before (s ∷ sites) ≡ []
    → ((is_among s.name before || is_preceded others s) ≡ false) × (repeated others (s.name ∷ before) sites ≡ [])
none_repeated others before s sites h = by_test (is_among s.name before || is_preceded others s) refl h
  where
    by_test : (b : Bool) → (is_among s.name before || is_preceded others s) ≡ b → cond b (s ∷ repeated others (s.name ∷ before) sites) (repeated others (s.name ∷ before) sites) ≡ []
        → ((is_among s.name before || is_preceded others s) ≡ false) × (repeated others (s.name ∷ before) sites ≡ [])
    by_test true e g = absurd (cc)
    by_test false e g = (e, g)

pub all_new : (others : List Site) (before : List (List ℕ)) (sites : List Site) → repeated others before sites ≡ [] → AreNew others before sites
all_new others before [] h = record { new = λ k name e. absurd (cc); apart = record { same = λ i j name e. absurd (cc) }; free = λ s e. absurd (Contains-nil s e) }
all_new others before (s ∷ sites) h =
    let parts = none_repeated others before s sites h in
    let here = or_parts (is_among s.name before) (is_preceded others s) parts.0 in
    more here.0 here.1 (all_new others (s.name ∷ before) sites parts.1)
  where
    more : is_among s.name before ≡ false → is_preceded others s ≡ false → AreNew others (s.name ∷ before) sites → AreNew others before (s ∷ sites)
    more first unpreceded rest = record { new = new; apart = record { same = same }; free = free }
      where
        beyond : (k : ℕ) (name : List ℕ) → slice_get (site_names sites) k ≡ Some name → (bytes_eq name s.name ≡ false) × (is_among name before ≡ false)
        beyond k name e = or_parts (bytes_eq name s.name) (is_among name before) (sym (among_cons name s.name before) ∙ rest.new k name e)

        new : (k : ℕ) (name : List ℕ) → slice_get (site_names (s ∷ sites)) k ≡ Some name → is_among name before ≡ false
        new zero name e = let same : s.name ≡ name = cc in subst (λ (n : List ℕ). is_among n before ≡ false) same first
        new (suc k) name e = (beyond k name e).1

        unlike : (k : ℕ) (name : List ℕ) → s.name ≡ name → slice_get (site_names sites) k ≡ Some name → ⊥
        unlike k name e h = both_ways (bytes_eq name s.name) (beyond k name h).0 (ap (bytes_eq name) e ∙ bytes_eq-self name)

        same : (i j : ℕ) (name : List ℕ) → slice_get (site_names (s ∷ sites)) i ≡ Some name → slice_get (site_names (s ∷ sites)) j ≡ Some name → i ≡ j
        same zero zero name a b = refl
        same zero (suc j) name a b = absurd (unlike j name (let e : s.name ≡ name = cc in e) b)
        same (suc i) zero name a b = absurd (unlike i name (let e : s.name ≡ name = cc in e) a)
        same (suc i) (suc j) name a b = ap suc (rest.apart.same i j name a b)

        free : (t : Site) → Contains (s ∷ sites) t → is_preceded others t ≡ false
        free t h = ⊎_elim
            (λ (e : s ≡ t). subst (λ (x : Site). is_preceded others x ≡ false) e unpreceded)
            (λ (k : Contains sites t). rest.free t k)
            (Contains-cons_cases s t sites h)

-- a site that no other precedes stands before each other of its name, or with it
unpreceded_form : (others : List Site) (s o : Site) → is_preceded others s ≡ false → Contains others o → o.name ≡ s.name → s.form ≤ o.form
unpreceded_form [] s o h k e = absurd (Contains-nil o k)
unpreceded_form (t ∷ others) s o h k e =
    let parts = or_parts (bytes_eq t.name s.name && nat_lt t.form s.form) (is_preceded others s) h in
    ⊎_elim
    (λ (same : t ≡ o). ⊎_elim
    (λ (eq : o.form ≡ s.form). omega arith)
    (λ (ne : (o.form < s.form) ⊎ (s.form < o.form)). ⊎_elim
    (λ (lt : o.form < s.form). absurd (both_ways (bytes_eq t.name s.name && nat_lt t.form s.form) parts.0
    (subst (λ (x : Site). (bytes_eq x.name s.name && nat_lt x.form s.form) ≡ true) (sym same)
    (and_from (bytes_eq o.name s.name) (nat_lt o.form s.form) (ap (bytes_eq o.name) (sym e) ∙ bytes_eq-self o.name) (lt-ltb o.form s.form lt)))))
    (λ (gt : s.form < o.form). omega arith)
    ne)
    (cases_order o.form s.form))
    (λ (other : Contains others o). unpreceded_form others s o parts.1 other e)
    (Contains-cons_cases t o others k)

flat_map_nil : {A B : Type 0} (f : A → List B) (xs : List A) (x : A) → flat_map f xs ≡ [] → Contains xs x → f x ≡ []
flat_map_nil f [] x h k = absurd (Contains-nil x k)
flat_map_nil f (y ∷ xs) x h k =
    let parts = append_nil_parts (f y) (flat_map f xs) h in
    ⊎_elim
    (λ (e : y ≡ x). subst (λ (z : _). f z ≡ []) e parts.0)
    (λ (other : Contains xs x). flat_map_nil f xs x parts.1 other)
    (Contains-cons_cases y x xs k)

no_sites : (line form : ℕ) (names : List (List ℕ)) → sites_of line form names ≡ [] → names ≡ []
no_sites line form [] h = refl
no_sites line form (n ∷ names) h = absurd (cc)

filter_nil : {A : Type 0} (p : A → Bool) (xs : List A) (x : A) → filter p xs ≡ [] → Contains xs x → p x ≡ false
filter_nil p [] x h k = absurd (Contains-nil x k)
filter_nil p (y ∷ xs) x h k = cond_both (p y) (y ∷ filter p xs) (filter p xs) (λ (zs : List _). zs ≡ [] → p x ≡ false)
    (λ _ g. absurd (cc))
    (λ fails g. ⊎_elim
    (λ (e : y ≡ x). subst (λ (z : _). p z ≡ false) e fails)
    (λ (other : Contains xs x). filter_nil p xs x g other)
    (Contains-cons_cases y x xs k)) h

map-map : {A B C : Type 0} (f : B → C) (g : A → B) (xs : List A) → map f (map g xs) ≡ map (λ x. f (g x)) xs
map-map f g [] = refl
map-map f g (x ∷ xs) = ap (λ ys. f (g x) ∷ ys) (map-map f g xs)

-- the names of reservations and of units
abbrev pub reservation_names_of : Description → List (List ℕ)
reservation_names_of d = map (λ r. r.name) d.reservations

abbrev pub unit_names_of : Description → List (List ℕ)
unit_names_of d = map (λ u. u.name) d.units

-- The names of a description are right: each reservation and each unit has its own, and names in expressions are of these.
pub record AreNamed (d : Description) : Type 0 where
  pub apart : AreApart (reservation_names_of d)
  pub units_apart : AreApart (unit_names_of d)
  pub no_unit : (name : List ℕ) → Contains (unit_names_of d) name → Contains (reservation_names_of d) name → ⊥
  pub in_reservations : (r : ReservationItem) → Contains d.reservations r → (name : List ℕ) → Contains (names_in r.expression) name → is_reservable d name ≡ true
  pub in_classes : (c : ClassItem) → Contains d.classes c → (name : List ℕ) → Contains (names_in c.expression) name → is_reservable d name ≡ true

module _ (d : Description) (reported : first_reported (faults_of_names d) ≡ None) (formed : IsCheckable d) where
  no_second : second_definitions d ≡ []
  no_second = standing_at (faults_of_names d) reported 0 _ refl

  no_unknown : unknown_names d ≡ []
  no_unknown = standing_at (faults_of_names d) reported 2 _ refl

  abbrev unit_repeats : List Site
  unit_repeats = repeated (reservation_sites d) [] (unit_sites d)

  abbrev reservation_repeats : List Site
  reservation_repeats = repeated (unit_sites d) [] (reservation_sites d)

  -- no unit and no reservation repeats
  no_repeats : (unit_repeats ≡ []) × (reservation_repeats ≡ [])
  no_repeats = third_of (repeated [] [] (automaton_sites d)) unit_repeats reservation_repeats (repeated [] [] (class_sites d)) (repeated [] [] (attribute_sites d)) (flat_map repeated_values d.attributes) no_second

  new_units : AreNew (reservation_sites d) [] (unit_sites d)
  new_units = all_new (reservation_sites d) [] (unit_sites d) no_repeats.0

  new_reservations : AreNew (unit_sites d) [] (reservation_sites d)
  new_reservations = all_new (unit_sites d) [] (reservation_sites d) no_repeats.1

  -- no unit and no reservation have one name, since they stand in forms of their own
  names_differ : (name : List ℕ) → Contains (unit_names_of d) name → Contains (reservation_names_of d) name → ⊥
  names_differ name in_units in_reservations =
      let u = Contains-from_map (λ (u : UnitItem). u.name) d.units name in_units in
      let r = Contains-from_map (λ (r : ReservationItem). r.name) d.reservations name in_reservations in
      let unit_site : Site = record { line = (u.0).line; form = (u.0).form; name = (u.0).name } in
      let among_units = Contains-map (λ (v : UnitItem). let s : Site = record { line = v.line; form = v.form; name = v.name } in s) d.units u.0 u.1 in
      let among_reservations = Contains-map reservation_site d.reservations r.0 r.1 in
      let low = unpreceded_form (reservation_sites d) unit_site (reservation_site r.0) (new_units.free unit_site among_units) among_reservations (r.2 ∙ sym u.2) in
      let high = unpreceded_form (unit_sites d) (reservation_site r.0) unit_site (new_reservations.free (reservation_site r.0) among_reservations) among_units (u.2 ∙ sym r.2) in
      let unit_form = All-contains (λ (i : UnitItem). IsForm formed.kinds i.form (define_cpu_unit i.query)) d.units u.0 formed.units u.1 in
      let reservation_form = (All-contains (IsCheckableReservation formed.kinds) d.reservations r.0 formed.reservations r.1).form in
      let same : (u.0).form ≡ (r.0).form = omega arith in
      let no : Some (define_cpu_unit ((u.0).query)) ≡ Some define_reservation = sym unit_form ∙ (ap (slice_get formed.kinds) same ∙ reservation_form) in
      absurd (cc)

  expression_known : (e : Expression) → unknown_in_expression d e ≡ [] → (name : List ℕ) → Contains (names_in e) name → is_reservable d name ≡ true
  expression_known e h name k = not-false' (filter_nil (λ n. not (is_reservable d n)) (names_in e) name h k)
    where
      not-false' : not (is_reservable d name) ≡ false → is_reservable d name ≡ true
      not-false' g = not-false (is_reservable d name) g

  abbrev in_reservation : ReservationItem → List Site
  in_reservation r = sites_of r.line r.form (unknown_in_expression d r.expression)

  abbrev in_class : ClassItem → List Site
  in_class c = sites_of c.line c.form (unknown_in_condition d c.condition ++ unknown_in_expression d c.expression)

  unknown_parts : (flat_map in_reservation d.reservations ≡ []) × (flat_map in_class d.classes ≡ [])
  unknown_parts =
      let rest = first_two (flat_map in_reservation d.reservations) (flat_map in_class d.classes) (flat_map (λ b. sites_of b.line b.form (filter (λ name. not (is_class d name)) (names_of_bypass b))) d.bypasses)
      (flat_map (λ s. sites_of s.line s.form (filter (λ name. not (is_unit d name)) (names_of_set s))) d.sets)
      (flat_map (λ a. sites_of a.line a.form (filter (λ name. not (is_among name a.values)) (a.fallback ∷ []))) d.attributes) no_unknown in rest

  pub are_named : AreNamed d
  are_named = record {
    apart = subst AreApart (map-map (λ (s : Site). s.name) reservation_site d.reservations) new_reservations.apart;
    units_apart = subst AreApart (map-map (λ (s : Site). s.name) (λ (u : UnitItem). let s : Site = record { line = u.line; form = u.form; name = u.name } in s) d.units) new_units.apart;
    no_unit = names_differ;
    in_reservations = λ r h. expression_known r.expression (no_sites r.line r.form (unknown_in_expression d r.expression) (flat_map_nil in_reservation d.reservations r unknown_parts.0 h));
    in_classes = λ c h. expression_known c.expression
        (append_nil_parts (unknown_in_condition d c.condition) (unknown_in_expression d c.expression)
        (no_sites c.line c.form (unknown_in_condition d c.condition ++ unknown_in_expression d c.expression) (flat_map_nil in_class d.classes c unknown_parts.1 h))).1;
  }
