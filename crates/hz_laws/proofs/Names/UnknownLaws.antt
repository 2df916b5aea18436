-- Names that are reported as unknown.
use Rattle.std.proofs.Common.{inl, inr, ◌≡◌, ◌≢◌, ⊎_elim, ℕ, suc, Bool, false, List, [], ◌∷◌, ◌++◌, map, filter, Contains, All, Option, Some, None, refl, sym, ap, ◌∙◌, subst, arith}
use Rattle.std.specs.Prelude.{◌↔◌, not}
use Rattle.std.specs.List.{flat_map}
use Rattle.std.specs.Str.{bytes_eq}
use Rattle.std.proofs.lemmas.Bool.{or_parts, or_from, cond_both, false_from_ne_true, both_ways}
use Rattle.std.proofs.lemmas.Slice.Eq.{bytes_eq-Decides}
use Rattle.std.proofs.lemmas.List.Elements.{All-nil, All-cons, All-contains, Contains-append_left, Contains-append_right, Contains-append_cases}
use Rattle.std.proofs.lemmas.Option.{none-some, same_Some}
use Rattle.hz_base_model.proofs.Elements.{Contains-nil, Contains-head, Contains-tail, Contains-cons_cases}
use Rattle.hz_description_model.specs.Reservations.Alternatives.{Expression}
use Rattle.hz_description_model.specs.Reservations.NamesIn.{names_in}
use Rattle.hz_description_model.specs.Reading.Descriptions.{Description, Condition, Conditions, UnitItem, ReservationItem, ClassItem, BypassItem, SetItem, AttributeItem}
use Rattle.hz_description_model.specs.Reading.Descriptions as condition
use Rattle.hz_description_model.specs.Check.CheckFaults.{IsFirst, sites_of, is_unit, is_reservable, is_class, values_of, unknown_in_test, unknown_in_condition, unknown_in_conditions, unknown_in_expression, names_of_set, names_of_bypass, unknown_names}
use Rattle.hz_description_model.specs.Check.Sites.{Site, is_among}
use Rattle.hz_description_model.proofs.Check.KeptLaws.{among, from_among}
use Rattle.hz_laws.specs.Names.NameFaults.{IsAt}
use Rattle.hz_laws.specs.Names.UnknownNames.{IsNoUnit, IsNoReservation, IsNoClass, IsNamedBy, IsOneOf, IsUnknownIn, IsUnknownName}
use Rattle.hz_pipeline_model.proofs.Decidable.FlatLists.{from_flat_map, in_flat_map}
use Rattle.hz_laws.proofs.Names.NamesAt.{site_reported, among_items, kept}

no_unit : (d : Description) (name : List ℕ) → is_unit d name ≡ false ↔ IsNoUnit d name
no_unit d name = among_items (λ (u : UnitItem). u.name) d.units name

no_class : (d : Description) (name : List ℕ) → is_class d name ≡ false ↔ IsNoClass d name
no_class d name = among_items (λ (c : ClassItem). c.name) d.classes name

not_reservable : (d : Description) (name : List ℕ) → is_reservable d name ≡ false ↔ (IsNoUnit d name × IsNoReservation d name)
not_reservable d name = (
  λ e. let both = or_parts (is_unit d name) (is_among name (map (λ (r : ReservationItem). r.name) d.reservations)) e in ((no_unit d name).0 both.0, (among_items (λ (r : ReservationItem). r.name) d.reservations name).0 both.1),
  λ h. or_from (is_unit d name) (is_among name (map (λ (r : ReservationItem). r.name) d.reservations)) ((no_unit d name).1 h.0) ((among_items (λ (r : ReservationItem). r.name) d.reservations name).1 h.1),
)

in_expression : (d : Description) (e : Expression) (name : List ℕ) → Contains (unknown_in_expression d e) name ↔ (Contains (names_in e) name × IsNoUnit d name × IsNoReservation d name)
in_expression d e name =
    let both = kept (is_reservable d) (names_in e) name in
    let reported = not_reservable d name in (
      λ c. let found = both.0 c in let none = reported.0 found.1 in (found.0, none.0, none.1),
      λ h. both.1 (h.0, reported.1 (h.1, h.2)),
    )

-- the attribute of a name, by its values
values_some : (attributes : List AttributeItem) (name : List ℕ) (values : List (List ℕ)) → values_of attributes name ≡ Some values → (a : AttributeItem) × IsFirst (λ b. b.name ≡ name) attributes a × (a.values ≡ values)
values_some [] name values e = absurd (none-some values e)
values_some (b ∷ attributes) name values e = cond_both (bytes_eq name b.name) (Some b.values) (values_of attributes name)
    (λ (o : Option (List (List ℕ))). o ≡ Some values → (a : AttributeItem) × IsFirst (λ b. b.name ≡ name) (b ∷ attributes) a × (a.values ≡ values))
    (λ same h. (b, record { before = []; after = attributes; parts = refl; holds = sym ((bytes_eq-Decides name b.name).0 same); others = All-nil (λ (o : AttributeItem). o.name ≡ name → ⊥) }, same_Some b.values values h))
    (λ other h.
    let (a, first, is) = values_some attributes name values h in (
      a,
      record {
        before = b ∷ first.before;
        after = first.after;
        parts = ap (λ (xs : List AttributeItem). b ∷ xs) first.parts;
        holds = first.holds;
        others = All-cons (λ (o : AttributeItem). o.name ≡ name → ⊥) b first.before (λ same. both_ways (bytes_eq name b.name) other ((bytes_eq-Decides name b.name).1 (sym same))) first.others;
      },
      is,
    ))
    e

values_none : (attributes : List AttributeItem) (name : List ℕ) → values_of attributes name ≡ None → (a : AttributeItem) → Contains attributes a → a.name ≢ name
values_none [] name e a there = absurd (Contains-nil a there)
values_none (b ∷ attributes) name e a there = cond_both (bytes_eq name b.name) (Some b.values) (values_of attributes name) (λ (o : Option (List (List ℕ))). o ≡ None → a.name ≢ name)
    (λ _ h. absurd (none-some b.values (sym h)))
    (λ other h same. ⊎_elim
    (λ (is : b ≡ a). both_ways (bytes_eq name b.name) other ((bytes_eq-Decides name b.name).1 (sym (ap (λ (x : AttributeItem). x.name) is ∙ same))))
    (λ (k : Contains attributes a). values_none attributes name h a k same)
    (Contains-cons_cases b a attributes there))
    e

none_values : (attributes : List AttributeItem) (name : List ℕ) → ((a : AttributeItem) → Contains attributes a → a.name ≢ name) → values_of attributes name ≡ None
none_values [] name none = refl
none_values (b ∷ attributes) name none = cond_both (bytes_eq name b.name) (Some b.values) (values_of attributes name) (λ (o : Option (List (List ℕ))). o ≡ None)
    (λ same. absurd (none b (Contains-head b attributes) (sym ((bytes_eq-Decides name b.name).0 same))))
    (λ _. none_values attributes name (λ a k. none a (Contains-tail b a attributes k)))

first_values : (attributes : List AttributeItem) (name : List ℕ) (before after : List AttributeItem) (a : AttributeItem) → attributes ≡ before ++ a ∷ after → a.name ≡ name → All (λ b. b.name ≡ name → ⊥) before → values_of attributes name ≡ Some a.values
first_values attributes name before after a parts holds others = ap (λ (xs : List AttributeItem). values_of xs name) parts ∙ go before others
  where
    go : (before : List AttributeItem) → All (λ b. b.name ≡ name → ⊥) before → values_of (before ++ a ∷ after) name ≡ Some a.values
    go [] none = cond_both (bytes_eq name a.name) (Some a.values) (values_of after name) (λ (o : Option (List (List ℕ))). o ≡ Some a.values)
        (λ _. refl)
        (λ other. absurd (both_ways (bytes_eq name a.name) other ((bytes_eq-Decides name a.name).1 (sym holds))))
    go (b ∷ before) none = cond_both (bytes_eq name b.name) (Some b.values) (values_of (before ++ a ∷ after) name) (λ (o : Option (List (List ℕ))). o ≡ Some a.values)
        (λ same. absurd (All-contains (λ (o : AttributeItem). o.name ≡ name → ⊥) (b ∷ before) b none (Contains-head b before) (sym ((bytes_eq-Decides name b.name).0 same))))
        (λ _. go before (λ k e lt. none (suc k) e (omega (arith, lt))))

-- Conditions.

module _ (d : Description) (name : List ℕ) where
  test_reported : (attribute : List ℕ) (values : List (List ℕ)) (negated : Bool) (o : Option (List (List ℕ))) → values_of d.attributes attribute ≡ o → Contains (unknown_in_test o attribute values) name → IsUnknownIn d (condition.matches attribute values negated) name
  test_reported attribute values negated None e c = ⊎_elim
      (λ (same : attribute ≡ name). subst (λ (n : List ℕ). IsUnknownIn d (condition.matches attribute values negated) n) same (IsUnknownIn.of_attribute (values_none d.attributes attribute e)))
      (λ (k : Contains [] name). absurd (Contains-nil name k))
      (Contains-cons_cases attribute name [] c)
  test_reported attribute values negated (Some defined) e c =
      let (a, first, is) = values_some d.attributes attribute defined e in
      let found = (kept (λ n. is_among n defined) values name).0 c in
      IsUnknownIn.of_value first found.0 (λ k. both_ways (is_among name defined) found.1 (among name defined (subst (λ (xs : List (List ℕ)). Contains xs name) is k)))

  mutual
    condition_reported : (test : Condition) → Contains (unknown_in_condition d test) name → IsUnknownIn d test name
    condition_reported (condition.constant value) c = absurd (Contains-nil name c)
    condition_reported (condition.matches attribute values negated) c = test_reported attribute values negated (values_of d.attributes attribute) refl c
    condition_reported (condition.negation test) c = IsUnknownIn.of_negation (condition_reported test c)
    condition_reported (condition.conjunction tests) c = let found = conditions_reported tests c in IsUnknownIn.of_conjunction found.1 found.2
    condition_reported (condition.disjunction tests) c = let found = conditions_reported tests c in IsUnknownIn.of_disjunction found.1 found.2

    conditions_reported : (tests : Conditions) → Contains (unknown_in_conditions d tests) name → (test : Condition) × IsOneOf test tests × IsUnknownIn d test name
    conditions_reported condition.none c = absurd (Contains-nil name c)
    conditions_reported (condition.more first others) c = ⊎_elim
        (λ (k : Contains (unknown_in_condition d first) name). (first, IsOneOf.here, condition_reported first k))
        (λ (k : Contains (unknown_in_conditions d others) name). let found = conditions_reported others k in (found.0, IsOneOf.later found.1, found.2))
        (Contains-append_cases (unknown_in_condition d first) (unknown_in_conditions d others) name c)

  one_reported : (test : Condition) (tests : Conditions) → IsOneOf test tests → Contains (unknown_in_condition d test) name → Contains (unknown_in_conditions d tests) name
  one_reported test _ (IsOneOf.here {others = others}) k = Contains-append_left (unknown_in_condition d test) (unknown_in_conditions d others) name k
  one_reported test _ (IsOneOf.later {first = first} {others = others} there) k = Contains-append_right (unknown_in_condition d first) (unknown_in_conditions d others) name (one_reported test others there k)

reported_condition : (d : Description) (test : Condition) (name : List ℕ) → IsUnknownIn d test name → Contains (unknown_in_condition d test) name
reported_condition d _ _ (IsUnknownIn.of_attribute {attribute = attribute} {values = values} none) =
    subst (λ (o : Option (List (List ℕ))). Contains (unknown_in_test o attribute values) attribute) (sym (none_values d.attributes attribute none)) (Contains-head attribute [])
reported_condition d _ _ (IsUnknownIn.of_value {attribute = attribute} {value = value} {values = values} {a = a} first there lacks) =
    subst (λ (o : Option (List (List ℕ))). Contains (unknown_in_test o attribute values) value) (sym (first_values d.attributes attribute first.before first.after a first.parts first.holds first.others))
    ((kept (λ n. is_among n a.values) values value).1 (there, false_from_ne_true (is_among value a.values) (λ k. lacks (from_among value a.values k))))
reported_condition d _ _ (IsUnknownIn.of_negation {test = test} {name = name} h) = reported_condition d test name h
reported_condition d _ _ (IsUnknownIn.of_conjunction {test = test} {tests = tests} {name = name} there h) = one_reported d name test tests there (reported_condition d test name h)
reported_condition d _ _ (IsUnknownIn.of_disjunction {test = test} {tests = tests} {name = name} there h) = one_reported d name test tests there (reported_condition d test name h)

-- Unknown names, list by list.

abbrev of_reservations : Description → List Site
of_reservations d = flat_map (λ r. sites_of r.line r.form (unknown_in_expression d r.expression)) d.reservations

abbrev of_classes : Description → List Site
of_classes d = flat_map (λ c. sites_of c.line c.form (unknown_in_condition d c.condition ++ unknown_in_expression d c.expression)) d.classes

abbrev of_bypasses : Description → List Site
of_bypasses d = flat_map (λ b. sites_of b.line b.form (filter (λ name. not (is_class d name)) (names_of_bypass b))) d.bypasses

abbrev of_sets : Description → List Site
of_sets d = flat_map (λ s. sites_of s.line s.form (filter (λ name. not (is_unit d name)) (names_of_set s))) d.sets

abbrev of_attributes : Description → List Site
of_attributes d = flat_map (λ a. sites_of a.line a.form (filter (λ name. not (is_among name a.values)) (a.fallback ∷ []))) d.attributes

reservation_reported : (d : Description) (s : Site) → Contains (of_reservations d) s → IsUnknownName d s
reservation_reported d s c =
    let (r, there, reported) = from_flat_map (λ r. sites_of r.line r.form (unknown_in_expression d r.expression)) d.reservations s c in
    let found = (site_reported r.line r.form (unknown_in_expression d r.expression) s).0 reported in
    let none = (in_expression d r.expression s.name).0 found.0 in
    IsUnknownName.of_reservation {r = r} there found.1 none.0 none.1 none.2

class_reported : (d : Description) (s : Site) → Contains (of_classes d) s → IsUnknownName d s
class_reported d s c =
    let (k, there, reported) = from_flat_map (λ c. sites_of c.line c.form (unknown_in_condition d c.condition ++ unknown_in_expression d c.expression)) d.classes s c in
    let found = (site_reported k.line k.form (unknown_in_condition d k.condition ++ unknown_in_expression d k.expression) s).0 reported in
    ⊎_elim
    (λ (i : Contains (unknown_in_condition d k.condition) s.name). IsUnknownName.of_condition {c = k} there found.1 (condition_reported d s.name k.condition i))
    (λ (i : Contains (unknown_in_expression d k.expression) s.name). let none = (in_expression d k.expression s.name).0 i in IsUnknownName.of_class {c = k} there found.1 none.0 none.1 none.2)
    (Contains-append_cases (unknown_in_condition d k.condition) (unknown_in_expression d k.expression) s.name found.0)

bypass_reported : (d : Description) (s : Site) → Contains (of_bypasses d) s → IsUnknownName d s
bypass_reported d s c =
    let (b, there, reported) = from_flat_map (λ b. sites_of b.line b.form (filter (λ name. not (is_class d name)) (names_of_bypass b))) d.bypasses s c in
    let found = (site_reported b.line b.form (filter (λ name. not (is_class d name)) (names_of_bypass b)) s).0 reported in
    let none = (kept (is_class d) (names_of_bypass b) s.name).0 found.0 in
    IsUnknownName.of_bypass {b = b} there found.1 (Contains-append_cases b.outs b.ins s.name none.0) ((no_class d s.name).0 none.1)

named_by : (e : SetItem) (name : List ℕ) → Contains (names_of_set e) name ↔ IsNamedBy e name
named_by e name = (
  λ c. ⊎_elim
      (λ (k : Contains e.units name). inl k)
      (λ (k : Contains (flat_map (λ (pattern : List (List ℕ)). pattern) e.patterns) name). inr (from_flat_map (λ (pattern : List (List ℕ)). pattern) e.patterns name k))
      (Contains-append_cases e.units (flat_map (λ (pattern : List (List ℕ)). pattern) e.patterns) name c),
  λ h. ⊎_elim
      (λ (k : Contains e.units name). Contains-append_left e.units (flat_map (λ (pattern : List (List ℕ)). pattern) e.patterns) name k)
      (λ (k : (pattern : List (List ℕ)) × Contains e.patterns pattern × Contains pattern name).
      Contains-append_right e.units (flat_map (λ (pattern : List (List ℕ)). pattern) e.patterns) name (in_flat_map (λ (pattern : List (List ℕ)). pattern) e.patterns k.0 name k.1 k.2))
      h,
)

set_reported : (d : Description) (s : Site) → Contains (of_sets d) s → IsUnknownName d s
set_reported d s c =
    let (e, there, reported) = from_flat_map (λ s. sites_of s.line s.form (filter (λ name. not (is_unit d name)) (names_of_set s))) d.sets s c in
    let found = (site_reported e.line e.form (filter (λ name. not (is_unit d name)) (names_of_set e)) s).0 reported in
    let none = (kept (is_unit d) (names_of_set e) s.name).0 found.0 in
    IsUnknownName.of_set {e = e} there found.1 ((named_by e s.name).0 none.0) ((no_unit d s.name).0 none.1)

default_reported : (d : Description) (s : Site) → Contains (of_attributes d) s → IsUnknownName d s
default_reported d s c =
    let (a, there, reported) = from_flat_map (λ a. sites_of a.line a.form (filter (λ name. not (is_among name a.values)) (a.fallback ∷ []))) d.attributes s c in
    let found = (site_reported a.line a.form (filter (λ name. not (is_among name a.values)) (a.fallback ∷ [])) s).0 reported in
    let none = (kept (λ name. is_among name a.values) (a.fallback ∷ []) s.name).0 found.0 in
    IsUnknownName.of_default {a = a} there found.1
    (⊎_elim (λ (same : a.fallback ≡ s.name). sym same) (λ (k : Contains [] s.name). absurd (Contains-nil s.name k)) (Contains-cons_cases a.fallback s.name [] none.0))
    (λ k. both_ways (is_among s.name a.values) none.1 (among s.name a.values k))

unknown_reported : (d : Description) (s : Site) → Contains (unknown_names d) s → IsUnknownName d s
unknown_reported d s c = ⊎_elim
    (λ (k : Contains (of_reservations d ++ of_classes d ++ of_bypasses d ++ of_sets d) s). ⊎_elim
    (λ (k : Contains (of_reservations d ++ of_classes d ++ of_bypasses d) s). ⊎_elim
    (λ (k : Contains (of_reservations d ++ of_classes d) s). ⊎_elim (reservation_reported d s) (class_reported d s) (Contains-append_cases (of_reservations d) (of_classes d) s k))
    (bypass_reported d s) (Contains-append_cases (of_reservations d ++ of_classes d) (of_bypasses d) s k))
    (set_reported d s) (Contains-append_cases (of_reservations d ++ of_classes d ++ of_bypasses d) (of_sets d) s k))
    (default_reported d s) (Contains-append_cases (of_reservations d ++ of_classes d ++ of_bypasses d ++ of_sets d) (of_attributes d) s c)

-- what the first lists tell is reported
of_first : (d : Description) (s : Site) → Contains (of_reservations d ++ of_classes d) s → Contains (unknown_names d) s
of_first d s k = Contains-append_left (of_reservations d ++ of_classes d ++ of_bypasses d ++ of_sets d) (of_attributes d) s
    (Contains-append_left (of_reservations d ++ of_classes d ++ of_bypasses d) (of_sets d) s (Contains-append_left (of_reservations d ++ of_classes d) (of_bypasses d) s k))

reported_class : (d : Description) (s : Site) (c : ClassItem) → Contains d.classes c → IsAt s c.line c.form → Contains (unknown_in_condition d c.condition ++ unknown_in_expression d c.expression) s.name → Contains (unknown_names d) s
reported_class d s c there place k = of_first d s (Contains-append_right (of_reservations d) (of_classes d) s
    (in_flat_map (λ c. sites_of c.line c.form (unknown_in_condition d c.condition ++ unknown_in_expression d c.expression)) d.classes c s there
    ((site_reported c.line c.form (unknown_in_condition d c.condition ++ unknown_in_expression d c.expression) s).1 (k, place))))

reported_unknown : (d : Description) (s : Site) → IsUnknownName d s → Contains (unknown_names d) s
reported_unknown d s (IsUnknownName.of_reservation {r = r} there place named unit reservation) = of_first d s (Contains-append_left (of_reservations d) (of_classes d) s
    (in_flat_map (λ r. sites_of r.line r.form (unknown_in_expression d r.expression)) d.reservations r s there
    ((site_reported r.line r.form (unknown_in_expression d r.expression) s).1 ((in_expression d r.expression s.name).1 (named, unit, reservation), place))))
reported_unknown d s (IsUnknownName.of_class {c = c} there place named unit reservation) =
    reported_class d s c there place (Contains-append_right (unknown_in_condition d c.condition) (unknown_in_expression d c.expression) s.name ((in_expression d c.expression s.name).1 (named, unit, reservation)))
reported_unknown d s (IsUnknownName.of_condition {c = c} there place named) =
    reported_class d s c there place (Contains-append_left (unknown_in_condition d c.condition) (unknown_in_expression d c.expression) s.name (reported_condition d c.condition s.name named))
reported_unknown d s (IsUnknownName.of_bypass {b = b} there place named none) =
    Contains-append_left (of_reservations d ++ of_classes d ++ of_bypasses d ++ of_sets d) (of_attributes d) s
    (Contains-append_left (of_reservations d ++ of_classes d ++ of_bypasses d) (of_sets d) s
    (Contains-append_right (of_reservations d ++ of_classes d) (of_bypasses d) s
    (in_flat_map (λ b. sites_of b.line b.form (filter (λ name. not (is_class d name)) (names_of_bypass b))) d.bypasses b s there
    ((site_reported b.line b.form (filter (λ name. not (is_class d name)) (names_of_bypass b)) s).1 (
      (kept (is_class d) (names_of_bypass b) s.name).1 (
        ⊎_elim (λ (k : Contains b.outs s.name). Contains-append_left b.outs b.ins s.name k) (λ (k : Contains b.ins s.name). Contains-append_right b.outs b.ins s.name k) named,
        (no_class d s.name).1 none,
      ),
      place,
    )))))
reported_unknown d s (IsUnknownName.of_set {e = e} there place named none) =
    Contains-append_left (of_reservations d ++ of_classes d ++ of_bypasses d ++ of_sets d) (of_attributes d) s
    (Contains-append_right (of_reservations d ++ of_classes d ++ of_bypasses d) (of_sets d) s
    (in_flat_map (λ s. sites_of s.line s.form (filter (λ name. not (is_unit d name)) (names_of_set s))) d.sets e s there
    ((site_reported e.line e.form (filter (λ name. not (is_unit d name)) (names_of_set e)) s).1 ((kept (is_unit d) (names_of_set e) s.name).1 ((named_by e s.name).1 named, (no_unit d s.name).1 none), place))))
reported_unknown d s (IsUnknownName.of_default {a = a} there place same lacks) =
    Contains-append_right (of_reservations d ++ of_classes d ++ of_bypasses d ++ of_sets d) (of_attributes d) s
    (in_flat_map (λ a. sites_of a.line a.form (filter (λ name. not (is_among name a.values)) (a.fallback ∷ []))) d.attributes a s there
    ((site_reported a.line a.form (filter (λ name. not (is_among name a.values)) (a.fallback ∷ [])) s).1 (
      (kept (λ name. is_among name a.values) (a.fallback ∷ []) s.name).1 (
        subst (λ (n : List ℕ). Contains (a.fallback ∷ []) n) (sym same) (Contains-head a.fallback []),
        false_from_ne_true (is_among s.name a.values) (λ k. lacks (from_among s.name a.values k)),
      ),
      place,
    )))

pub unknown_name : (d : Description) (s : Site) → Contains (unknown_names d) s ↔ IsUnknownName d s
unknown_name d s = (unknown_reported d s, reported_unknown d s)
