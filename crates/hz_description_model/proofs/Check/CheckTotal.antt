-- Every description that can be read has a fault or is sound.
use Rattle.std.proofs.Common.{◌≡◌, ℕ, suc, ◌<◌, ◌⊎◌, inl, inr, ⊎_elim, Bool, true, List, [], ◌∷◌, ◌++◌, length, map, drop, Contains, All, Option, Some, None, refl, sym, ap, ◌∙◌, subst, arith, slice_get}
use Rattle.std.specs.Prelude.{nat_lt, ◌&&◌, ◌||◌}
use Rattle.std.specs.List.{flat_map}
use Rattle.std.specs.Str.{bytes_eq}
use Rattle.std.proofs.lemmas.Bool.{cond_both, cases_order, and_from, or_right, lt-ltb, both_ways}
use Rattle.std.proofs.lemmas.List.Elements.{All-nil, All-cons, All-contains}
use Rattle.std.proofs.lemmas.List.Folds.{list_any_at}
use Rattle.std.proofs.lemmas.Option.{none-some}
use Rattle.std.proofs.lemmas.Slice.Eq.{bytes_eq-Decides}
use Rattle.hz_description_model.specs.Reservations.Alternatives.{Expression}
use Rattle.hz_description_model.specs.Reservations.Automata.{UnitPlace}
use Rattle.hz_description_model.specs.Check.CheckFaults.{CheckFault, unit_site, twice_defined, circular_reservation, CheckFaultAt, IsSound, IsUnfolded, IsFirst, IsCircular, faults_of_names, faults_of_meanings, automaton_sites, unit_sites, reservation_sites, class_sites, attribute_sites, repeated_values, second_definitions}
use Rattle.hz_description_model.specs.Check.CountingOrder.{IsCountingOrder, Reserving, reservation_site}
use Rattle.hz_description_model.specs.Check.FirstReported.{Reported, Standing, first_reported, reported_at}
use Rattle.hz_description_model.specs.Reading.Descriptions.{Description, UnitItem, ReservationItem}
use Rattle.hz_description_model.specs.Reading.DescriptionShape.{FormKind, define_cpu_unit, define_reservation, IsCheckable, IsForm, IsCheckableReservation}
use Rattle.hz_description_model.specs.Check.Places.{at_name, unit_place, unit_places, reservation_named, unit_or_reservation, meaning, IsKnown, Known}
use Rattle.hz_description_model.specs.Reservations.Meanings.{reservation, Reaches}
use Rattle.hz_description_model.specs.Check.Sites.{Site, is_among, earliest, is_preceded, repeated}
use Rattle.hz_description_model.proofs.Check.CircleLaws.{reaches_or_not, leads_listed, unwinds, rank_low}
use Rattle.hz_description_model.proofs.Check.CountingLaws.{at_name_named, some_order}
use Rattle.hz_description_model.proofs.Check.EarliestLaws.{no_site}
use Rattle.hz_base_model.proofs.Elements.{Contains-nil, Contains-tail, Contains-cons_cases, Contains-map, Contains-from_map}
use Rattle.hz_description_model.proofs.Check.PlaceLaws.{at_name_in}
use Rattle.hz_description_model.proofs.Reservations.MeaningLaws.{assigned, assigned_right}

-- the first item of which a fact holds, where it is decided
first_or_none : {A : Type 0} (P : A → Type 0) → ((x : A) → P x ⊎ (P x → ⊥)) → (xs : List A) → ((x : A) × IsFirst P xs x) ⊎ All (λ x. P x → ⊥) xs
first_or_none P decide [] = inr (All-nil (λ x. P x → ⊥))
first_or_none P decide (x ∷ xs) = ⊎_elim
    (λ holds. inl (x, record { before = []; after = xs; parts = refl; holds = holds; others = All-nil (λ y. P y → ⊥) }))
    (λ fails. ⊎_elim
    (λ (found : (y : _) × IsFirst P xs y).
    let first = found.1 in
    inl (found.0, record { before = x ∷ first.before; after = first.after; parts = ap (λ (ys : List _). x ∷ ys) first.parts; holds = first.holds; others = All-cons (λ y. P y → ⊥) x first.before fails first.others }))
    (λ none. inr (All-cons (λ y. P y → ⊥) x xs fails none))
    (first_or_none P decide xs))
    (decide x)

-- where nothing is reported, no site of the first fault stands
first_standing : (fault : CheckFault) (o : Option Site) (otherwise : Option (Reported CheckFault)) → reported_at fault o otherwise ≡ None → o ≡ None
first_standing fault None otherwise e = refl
first_standing fault (Some s) otherwise e = absurd (none-some _ (sym e))

pub front_empty : {A : Type 0} (xs ys : List A) → xs ++ ys ≡ [] → xs ≡ []
front_empty [] ys e = refl
front_empty (x ∷ xs) ys e = absurd (cc)

pub back_empty : {A : Type 0} (xs ys : List A) → xs ++ ys ≡ [] → ys ≡ []
back_empty [] ys e = e
back_empty (x ∷ xs) ys e = absurd (cc)

-- no name that is not repeated was given by an earlier form
not_preceded : (others : List Site) (before : List (List ℕ)) (sites : List Site) → repeated others before sites ≡ [] → (s : Site) → Contains sites s → is_preceded others s ≡ true → ⊥
not_preceded others before [] e s there h = Contains-nil s there
not_preceded others before (t ∷ sites) e s there h =
    let twice = is_among t.name before || is_preceded others t in
    let rest = repeated others (t.name ∷ before) sites in
    cond_both twice (t ∷ rest) rest (λ (xs : List Site). xs ≡ [] → ⊥)
    (λ _ e. absurd (cc))
    (λ once e. ⊎_elim
    (λ (same : t ≡ s). both_ways twice once (or_right (is_among t.name before) (is_preceded others t) (ap (is_preceded others) same ∙ h)))
    (λ (k : Contains sites s). not_preceded others (t.name ∷ before) sites e s k h)
    (Contains-cons_cases t s sites there)) e

preceded : (others : List Site) (o s : Site) → Contains others o → o.name ≡ s.name → o.form < s.form → is_preceded others s ≡ true
preceded others o s there same low = list_any_at (λ p. bytes_eq p.name s.name && nat_lt p.form s.form) others there.0 o there.1
    (subst (λ (p : Site). (bytes_eq p.name s.name && nat_lt p.form s.form) ≡ true) (sym there.2) (and_from (bytes_eq o.name s.name) (nat_lt o.form s.form) ((bytes_eq-Decides o.name s.name).1 same) (lt-ltb o.form s.form low)))

-- what is found by a name has it among the names
found_among : {A : Type 0} (name : List ℕ) (names : List (List ℕ)) (items : List A) (item : A) → at_name name names items ≡ Some item → Contains names name
found_among name [] items item e = absurd (none-some item e)
found_among name (n ∷ names) [] item e = absurd (none-some item e)
found_among name (n ∷ names) (x ∷ items) item e = cond_both (bytes_eq name n) (Some x) (at_name name names items) (λ (o : Option _). o ≡ Some item → Contains (n ∷ names) name)
    (λ same _. (0, omega arith, sym ((bytes_eq-Decides name n).0 same)))
    (λ _ s. Contains-tail n name names (found_among name names items item s)) e

parts_empty : (a b c e f g : List Site) → a ++ b ++ c ++ e ++ f ++ g ≡ [] → (b ≡ []) × (c ≡ [])
parts_empty a b c e f g h =
    let front = front_empty (a ++ b ++ c) e (front_empty (a ++ b ++ c ++ e) f (front_empty (a ++ b ++ c ++ e ++ f) g h)) in
    (back_empty a b (front_empty (a ++ b) c front), back_empty (a ++ b) c front)

first_empty : (s : Standing CheckFault) (others : List (Standing CheckFault)) → first_reported (s ∷ others) ≡ None → s.sites ≡ []
first_empty s others e = no_site s.sites (first_standing s.fault (earliest s.sites) (first_reported others) e)

-- two kinds are not of one form
one_kind : (kinds : List FormKind) (query : Bool) (m n : ℕ) → m ≡ n → slice_get kinds m ≡ Some (define_cpu_unit query) → slice_get kinds n ≡ Some define_reservation → ⊥
one_kind kinds query m n e a b = let c = ap (slice_get kinds) e in cc

named_reservation : (u : Option UnitPlace) (o : Option ReservationItem) (e : Expression) → unit_or_reservation u o ≡ Some (reservation e) → (r : ReservationItem) × (o ≡ Some r)
named_reservation (Some u) o e is = absurd (cc)
named_reservation None None e is = absurd (cc)
named_reservation None (Some r) e is = (r, refl)

-- it is sound, or a fault is reported of it
abbrev pub Judged : Description → Type 0
Judged d = ((known : Known) × IsSound d known) ⊎ ((fault : CheckFault) × (site : Site) × CheckFaultAt d fault site)

module _ (d : Description) where
  names : List (List ℕ)
  names = map (λ (r : ReservationItem). r.name) d.reservations

  listed : (name : List ℕ) (e : Expression) → meaning d name ≡ Some (reservation e) → Contains names name
  unfolding names
  listed name e is =
      let found = named_reservation (unit_place d name) (reservation_named d name) e is in
      found_among name names d.reservations found.0 found.1

  module _ (formed : IsCheckable d) (defined : first_reported (faults_of_names d) ≡ None) where
    no_second : (repeated (reservation_sites d) [] (unit_sites d) ≡ []) × (repeated (unit_sites d) [] (reservation_sites d) ≡ [])
    no_second = parts_empty (repeated [] [] (automaton_sites d)) (repeated (reservation_sites d) [] (unit_sites d)) (repeated (unit_sites d) [] (reservation_sites d))
        (repeated [] [] (class_sites d)) (repeated [] [] (attribute_sites d)) (flat_map repeated_values d.attributes)
        (first_empty (record { fault = twice_defined; sites = second_definitions d }) (drop 1 (faults_of_names d)) defined)

    not_both : (u : UnitItem) (r : ReservationItem) → Contains d.units u → Contains d.reservations r → u.name ≡ r.name → ⊥
    not_both u r a b same =
        let kinds = formed.kinds in
        let u_form = All-contains (λ (i : UnitItem). IsForm kinds i.form (define_cpu_unit i.query)) d.units u formed.units a in
        let r_form = (All-contains (IsCheckableReservation kinds) d.reservations r formed.reservations b).form in
        let u_there = Contains-map unit_site d.units u a in
        let r_there = Contains-map reservation_site d.reservations r b in
        ⊎_elim
        (λ e. one_kind kinds u.query u.form r.form e u_form r_form)
        (⊎_elim
        (λ low. not_preceded (unit_sites d) [] (reservation_sites d) no_second.1 (reservation_site r) r_there (preceded (unit_sites d) (unit_site u) (reservation_site r) u_there same low))
        (λ low. not_preceded (reservation_sites d) [] (unit_sites d) no_second.0 (unit_site u) u_there (preceded (reservation_sites d) (reservation_site r) (unit_site u) r_there (sym same) low)))
        (cases_order u.form r.form)

    -- a name is not that of a unit and of a reservation
    pub no_unit : (name : List ℕ) (r : ReservationItem) → reservation_named d name ≡ Some r → unit_place d name ≡ None
    no_unit name r is = by_unit (unit_place d name) refl
      where
        by_unit : (o : Option UnitPlace) → unit_place d name ≡ o → o ≡ None
        by_unit None e = refl
        by_unit (Some place) e =
            let u = Contains-from_map (λ (u : UnitItem). u.name) d.units name (found_among name (map (λ u. u.name) d.units) (unit_places d) place e) in
            let named = at_name_named (λ (r : ReservationItem). r.name) name d.reservations r is in
            absurd (not_both u.0 r u.1 (at_name_in name (map (λ r. r.name) d.reservations) d.reservations r is) (u.2 ∙ sym named))

    by_meanings : (known : Known) (order : List Reserving) → IsUnfolded d known order → (o : Option (Reported CheckFault)) → first_reported (faults_of_meanings d known order) ≡ o → Judged d
    by_meanings known order unfolded None e = inl (known, record { order = order; unfolded = unfolded; free = e })
    by_meanings known order unfolded (Some reported) e = inr (reported.fault, reported.site, CheckFaultAt.of_meanings unfolded e)

    judged : (known : Known) → IsKnown d known → (order : List Reserving) → IsCountingOrder d order → Judged d
    judged known right order counts =
        by_meanings known order (record { defined = defined; right = right; counts = counts }) (first_reported (faults_of_meanings d known order)) refl

    by_circles : ((r : ReservationItem) × IsFirst (IsCircular d) d.reservations r) ⊎ All (λ r. IsCircular d r → ⊥) d.reservations → Judged d
    unfolding names
    by_circles (inl first) = inr (circular_reservation, reservation_site first.0, CheckFaultAt.of_circle defined first.1)
    by_circles (inr none) =
        let no_circle = λ (name : List ℕ) (h : Reaches (meaning d) name name).
        let r = Contains-from_map (λ (r : ReservationItem). r.name) d.reservations name (leads_listed (meaning d) names listed name name h) in
        All-contains (λ r. IsCircular d r → ⊥) d.reservations r.0 none r.1 (subst (λ (n : List ℕ). Reaches (meaning d) n n) (sym r.2) h) in
        let falling = unwinds (meaning d) names listed no_circle in
        let order = some_order d falling no_unit (suc (length names)) (λ name. let low = rank_low (meaning d) names listed no_circle name in omega arith) in
        judged (assigned (meaning d) falling) (record { unwinds = falling; expands = assigned_right (meaning d) falling }) order.0 order.1

  pub sound_or_fault : IsCheckable d → Judged d
  sound_or_fault formed = by_names (first_reported (faults_of_names d)) refl
    where
      by_names : (o : Option (Reported CheckFault)) → first_reported (faults_of_names d) ≡ o → Judged d
      by_names None defined = by_circles formed defined (first_or_none (IsCircular d) (λ r. reaches_or_not (meaning d) names listed r.name r.name) d.reservations)
      by_names (Some reported) e = inr (reported.fault, reported.site, CheckFaultAt.of_names e)
