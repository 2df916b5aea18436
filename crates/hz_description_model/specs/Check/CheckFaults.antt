-- What can be wrong with a description that is read, and which fault is reported. This profile, docs/RULES.md, 'Faults of a description'.
use Rattle.std.specs.Prelude.{◌≡◌, ℕ, Bool, false, true, ◌&&◌, ◌||◌, ◌==◌, not, nat_lt, List, [], ◌∷◌, ◌++◌, map, filter, length, drop, All, codes, Option, Some, None, option_and_then, is_none, if◌then◌else◌}
use Rattle.std.specs.Option.{option_map}
use Rattle.std.specs.List.{list_any, flat_map, filter_map}
use Rattle.std.specs.Str.{bytes_eq}
use Rattle.hz_base_model.specs.Limits.{automaton_limit, unit_limit, class_limit, cycle_limit}
use Rattle.hz_description_model.specs.Reservations.Limits.{alternative_limit}
use Rattle.hz_description_model.specs.Reservations.Alternatives.{Expression}
use Rattle.hz_description_model.specs.Reservations.Automata.{UnitPlace}
use Rattle.hz_description_model.specs.Reservations.Meanings.{Reaches}
use Rattle.hz_description_model.specs.Reservations.NamesIn.{names_in}
use Rattle.hz_description_model.specs.Reservations.Sets.{SetKind, exclusion}
use Rattle.hz_description_model.specs.Reading.Descriptions.{Description, Condition, Conditions, UnitItem, ReservationItem, ClassItem, BypassItem, SetItem, AttributeItem, unguarded}
use Rattle.hz_description_model.specs.Reading.Descriptions as condition
use Rattle.hz_description_model.specs.Check.CountingOrder.{Reserving, reservation_site, reservations_of, classes_of, alternatives_in, IsCountingOrder, past_size}
use Rattle.hz_description_model.specs.Check.FirstReported.{Standing, Reported, first_reported}
use Rattle.hz_description_model.specs.Check.Places.{Known, class_names, meaning, unit_place, unit_places, IsKnown}
use Rattle.hz_description_model.specs.Check.Sites.{Site, is_among, repeated}
use Rattle.hz_description_model.specs.Check.SplitClasses.{mixed_classes, uneven_classes}

-- the limits, in the order in which they are asked
pub data LimitName : Type 0 where
  automata units classes alternatives cycles size : LimitName

-- the word by which a limit is reported: docs/FORMATS.md, 'Answers'
abbrev pub limit_word : LimitName → List ℕ
limit_word automata = codes "Automata"
limit_word units = codes "Units"
limit_word classes = codes "Classes"
limit_word alternatives = codes "Alternatives"
limit_word cycles = codes "Cycles"
limit_word size = codes "Size"

-- the faults, in the order in which they are asked
pub data CheckFault : Type 0 where
  twice_defined reserved_name unknown_name unknown_automaton unit_needs_automaton circular_reservation self_exclusion set_across_automata : CheckFault
  limit : (what : LimitName) → CheckFault
  alternation_of_two_automata alternation_of_two_lengths bypass_twice query_under_ndfa : CheckFault

-- the word by which a fault is reported: docs/FORMATS.md, 'Answers'
abbrev pub check_word : CheckFault → List ℕ
check_word twice_defined = codes "TwiceDefined"
check_word reserved_name = codes "ReservedName"
check_word unknown_name = codes "UnknownName"
check_word unknown_automaton = codes "UnknownAutomaton"
check_word unit_needs_automaton = codes "UnitNeedsAutomaton"
check_word circular_reservation = codes "CircularReservation"
check_word self_exclusion = codes "SelfExclusion"
check_word set_across_automata = codes "SetAcrossAutomata"
check_word (limit what) = limit_word what
check_word alternation_of_two_automata = codes "AlternationOfTwoAutomata"
check_word alternation_of_two_lengths = codes "AlternationOfTwoLengths"
check_word bypass_twice = codes "BypassTwice"
check_word query_under_ndfa = codes "QueryUnderNdfa"

-- the limit that is passed; of any other fault none
abbrev pub limit_passed : CheckFault → Option LimitName
limit_passed (limit what) = Some what
limit_passed _ = None

-- Where names are defined.

abbrev pub automaton_sites : Description → List Site
automaton_sites d = map (λ a. record { line = a.line; form = a.form; name = a.name }) d.automata

abbrev pub unit_site : UnitItem → Site
unit_site u = record { line = u.line; form = u.form; name = u.name }

abbrev pub unit_sites : Description → List Site
unit_sites d = map unit_site d.units

abbrev pub reservation_sites : Description → List Site
reservation_sites d = map reservation_site d.reservations

abbrev pub class_sites : Description → List Site
class_sites d = map (λ c. record { line = c.line; form = c.form; name = c.name }) d.classes

abbrev pub attribute_sites : Description → List Site
attribute_sites d = map (λ a. record { line = a.line; form = a.form; name = a.name }) d.attributes

-- names of one form, where they stand
abbrev pub sites_of : ℕ → ℕ → List (List ℕ) → List Site
sites_of line form names = map (λ name. record { line = line; form = form; name = name }) names

-- Twice defined: a name the second time in its name space. Units and reservations share one, and each attribute has
-- one for its values.

-- the values of an attribute that stand in it before
abbrev pub repeated_values : AttributeItem → List Site
repeated_values a = repeated [] [] (sites_of a.line a.form a.values)

abbrev pub second_definitions : Description → List Site
second_definitions d = repeated [] [] (automaton_sites d)
    ++ repeated (reservation_sites d) [] (unit_sites d)
    ++ repeated (unit_sites d) [] (reservation_sites d)
    ++ repeated [] [] (class_sites d)
    ++ repeated [] [] (attribute_sites d)
    ++ flat_map repeated_values d.attributes

-- Reserved name: a unit or a reservation is called `nothing`.
abbrev pub reserved_names : Description → List Site
reserved_names d = filter (λ s. bytes_eq s.name (codes "nothing")) (unit_sites d) ++ filter (λ s. bytes_eq s.name (codes "nothing")) (reservation_sites d)

-- Unknown name: it is not defined as the kind that is wanted where it stands.

-- the name is that of a unit
abbrev pub is_unit : Description → List ℕ → Bool
is_unit d name = is_among name (map (λ u. u.name) d.units)

-- the name is that of a unit or of a reservation
abbrev pub is_reservable : Description → List ℕ → Bool
is_reservable d name = is_unit d name || is_among name (map (λ r. r.name) d.reservations)

-- the name is that of a class
abbrev pub is_class : Description → List ℕ → Bool
is_class d name = is_among name (class_names d)

-- the values of the attribute of this name
abbrev pub values_of : List AttributeItem → List ℕ → Option (List (List ℕ))
values_of [] name = None
values_of (a ∷ attributes) name = if bytes_eq name a.name then Some a.values else values_of attributes name

-- of an attribute and values that a test names: the attribute, where it is not defined, else the values that it doesn't have
abbrev pub unknown_in_test : Option (List (List ℕ)) → List ℕ → List (List ℕ) → List (List ℕ)
unknown_in_test None attribute values = attribute ∷ []
unknown_in_test (Some defined) attribute values = filter (λ value. not (is_among value defined)) values

-- what a condition names and is not defined, from left to right
abbrev mutual
  pub unknown_in_condition : Description → Condition → List (List ℕ)
  unknown_in_condition d (condition.constant value) = []
  unknown_in_condition d (condition.matches attribute values negated) = unknown_in_test (values_of d.attributes attribute) attribute values
  unknown_in_condition d (condition.negation test) = unknown_in_condition d test
  unknown_in_condition d (condition.conjunction tests) = unknown_in_conditions d tests
  unknown_in_condition d (condition.disjunction tests) = unknown_in_conditions d tests

  pub unknown_in_conditions : Description → Conditions → List (List ℕ)
  unknown_in_conditions d condition.none = []
  unknown_in_conditions d (condition.more first others) = unknown_in_condition d first ++ unknown_in_conditions d others

-- what an expression names and is neither a unit nor a reservation
abbrev pub unknown_in_expression : Description → Expression → List (List ℕ)
unknown_in_expression d e = filter (λ name. not (is_reservable d name)) (names_in e)

-- the units of a set's patterns, one pattern after the other
abbrev pub units_of_patterns : SetItem → List (List ℕ)
units_of_patterns s = flat_map (λ pattern. pattern) s.patterns

-- the units that a set names, those of its first string first
abbrev pub names_of_set : SetItem → List (List ℕ)
names_of_set s = s.units ++ units_of_patterns s

-- the classes that a bypass names, the producing ones first
abbrev pub names_of_bypass : BypassItem → List (List ℕ)
names_of_bypass b = b.outs ++ b.ins

abbrev pub unknown_names : Description → List Site
unknown_names d = flat_map (λ r. sites_of r.line r.form (unknown_in_expression d r.expression)) d.reservations
    ++ flat_map (λ c. sites_of c.line c.form (unknown_in_condition d c.condition ++ unknown_in_expression d c.expression)) d.classes
    ++ flat_map (λ b. sites_of b.line b.form (filter (λ name. not (is_class d name)) (names_of_bypass b))) d.bypasses
    ++ flat_map (λ s. sites_of s.line s.form (filter (λ name. not (is_unit d name)) (names_of_set s))) d.sets
    ++ flat_map (λ a. sites_of a.line a.form (filter (λ name. not (is_among name a.values)) (a.fallback ∷ []))) d.attributes

-- Unknown automaton: a unit names one that is not defined. The name is the automaton's.

-- the automaton that a unit names, where it is not defined
abbrev pub unknown_automaton_of : List (List ℕ) → UnitItem → Option Site
unknown_automaton_of defined u =
    option_and_then (λ name. if is_among name defined then None else Some (record { line = u.line; form = u.form; name = name })) u.automaton

abbrev pub unknown_automata : Description → List Site
unknown_automata d = filter_map (unknown_automaton_of (map (λ a. a.name) d.automata)) d.units

-- Unit needs automaton: an automaton is defined, and the unit names none.

-- the unit, where it names no automaton
abbrev pub homeless : UnitItem → Option Site
homeless u = if is_none u.automaton then Some (record { line = u.line; form = u.form; name = u.name }) else None

abbrev pub units_without_automaton : Description → List Site
units_without_automaton d = if length d.automata == 0 then [] else filter_map homeless d.units

-- Circular reservation: it reaches itself through names.
abbrev pub IsCircular : Description → ReservationItem → Type 0
IsCircular d r = Reaches (meaning d) r.name r.name

-- the first item of which a fact holds
pub record IsFirst {A : Type 0} (P : A → Type 0) (items : List A) (item : A) : Type 0 where
  pub before : List A
  pub after : List A
  pub parts : items ≡ before ++ item ∷ after
  pub holds : P item
  pub others : All (λ other. P other → ⊥) before

-- Self exclusion: a unit is in both strings of one exclusion.

abbrev pub is_exclusion : SetKind → Bool
is_exclusion exclusion = true
is_exclusion _ = false

-- the units of an exclusion that it excludes from themselves
abbrev pub self_excluded : SetItem → List Site
self_excluded s = if is_exclusion s.kind then sites_of s.line s.form (filter (λ name. is_among name (units_of_patterns s)) s.units) else []

abbrev pub self_exclusions : Description → List Site
self_exclusions d = flat_map self_excluded d.sets

-- Set across automata: a unit of a set has another automaton than its first unit.

-- the automaton of a unit, by number
abbrev pub home : Description → List ℕ → Option ℕ
home d name = option_map (λ u. u.automaton) (unit_place d name)

-- both are the same number, or none
abbrev pub same_home : Option ℕ → Option ℕ → Bool
same_home None None = true
same_home (Some a) (Some b) = a == b
same_home _ _ = false

-- the names whose automaton is not that of the first
abbrev pub strangers : Description → List (List ℕ) → List (List ℕ)
strangers d [] = []
strangers d (first ∷ names) = filter (λ name. not (same_home (home d name) (home d first))) names

abbrev pub sets_across_automata : Description → List Site
sets_across_automata d = flat_map (λ s. sites_of s.line s.form (strangers d (names_of_set s))) d.sets

-- Limits.

-- a unit where it stands, if its number in its automaton is past the limit
abbrev pub past_units : List UnitItem → List UnitPlace → List Site
past_units (u ∷ others) (place ∷ places) =
    if nat_lt place.unit unit_limit then past_units others places else record { line = u.line; form = u.form; name = u.name } ∷ past_units others places
past_units _ _ = []

-- more than may be
abbrev pub has_too_many : Known → Reserving → Bool
has_too_many known r = nat_lt alternative_limit (length (alternatives_in known r))

-- some alternative is longer than may be
abbrev pub has_too_long : Known → Reserving → Bool
has_too_long known r = list_any (λ a. nat_lt cycle_limit a.cycles) (alternatives_in known r)

-- the sites of those that pass a test, the reservations first
abbrev pub sites_where : (Reserving → Bool) → Description → List Site
sites_where test d = map (λ r. r.site) (filter test (reservations_of d)) ++ map (λ r. r.site) (filter test (classes_of d))

-- where a limit is passed
abbrev pub past_limit : Description → Known → List Reserving → LimitName → List Site
past_limit d known order automata = drop automaton_limit (automaton_sites d)
past_limit d known order units = past_units d.units (unit_places d)
past_limit d known order classes = drop class_limit (class_sites d)
past_limit d known order alternatives = sites_where (has_too_many known) d
past_limit d known order cycles = sites_where (has_too_long known) d
past_limit d known order size = past_size known 0 order

-- Bypass twice: a bypass without the guard gives a pair of classes another number than an earlier one without it. The name is the
-- producing class.

-- the bypass gives the pair another number than the one of this number
abbrev pub differs : ℕ → List ℕ → List ℕ → BypassItem → Bool
differs number out «in» b = not (b.number == number) && is_among out b.outs && is_among «in» b.ins

-- the producing classes of a bypass that gives them another number than some bypass before it
abbrev pub renumbered : List BypassItem → BypassItem → List Site
renumbered before b = sites_of b.line b.form (filter (λ out. list_any (λ «in». list_any (differs b.number out «in») before) b.ins) b.outs)

-- the same of bypasses after these
abbrev pub renumbered_after : List BypassItem → List BypassItem → List Site
renumbered_after before [] = []
renumbered_after before (b ∷ bypasses) = renumbered before b ++ renumbered_after (before ++ b ∷ []) bypasses

abbrev pub second_numbers : Description → List Site
second_numbers d = renumbered_after [] (unguarded d.bypasses)

-- Query under ndfa: a query unit is defined, and the option `ndfa` is given.

-- the query units
abbrev pub query_units : Description → List UnitItem
query_units d = filter (λ u. u.query) d.units

abbrev pub queries_under_ndfa : Description → List Site
queries_under_ndfa d = if (d.options).ndfa then map unit_site (query_units d) else []

-- the faults of names, in their order
abbrev pub faults_of_names : Description → List (Standing CheckFault)
faults_of_names d = record { fault = twice_defined; sites = second_definitions d }
    ∷ record { fault = reserved_name; sites = reserved_names d }
    ∷ record { fault = unknown_name; sites = unknown_names d }
    ∷ record { fault = unknown_automaton; sites = unknown_automata d }
    ∷ record { fault = unit_needs_automaton; sites = units_without_automaton d }
    ∷ []

-- the limits, in their order
abbrev pub faults_of_limits : Description → Known → List Reserving → List (Standing CheckFault)
faults_of_limits d known order =
    map (λ what. record { fault = limit what; sites = past_limit d known order what }) (automata ∷ units ∷ classes ∷ alternatives ∷ cycles ∷ size ∷ [])

-- the faults of classes of several automata, in their order
abbrev pub faults_of_classes : Description → Known → List (Standing CheckFault)
faults_of_classes d known = record { fault = alternation_of_two_automata; sites = mixed_classes d known }
    ∷ record { fault = alternation_of_two_lengths; sites = uneven_classes d known }
    ∷ []

-- the faults after that of circular reservations, in their order
abbrev pub faults_of_meanings : Description → Known → List Reserving → List (Standing CheckFault)
faults_of_meanings d known order = record { fault = self_exclusion; sites = self_exclusions d }
    ∷ record { fault = set_across_automata; sites = sets_across_automata d }
    ∷ (faults_of_limits d known order ++ faults_of_classes d known ++ record { fault = bypass_twice; sites = second_numbers d } ∷ record { fault = query_under_ndfa; sites = queries_under_ndfa d } ∷ [])

-- The names are right: each has its alternatives, and there is a counting order.
pub record IsUnfolded (d : Description) (known : Known) (order : List Reserving) : Type 0 where
  pub defined : first_reported (faults_of_names d) ≡ None
  pub right : IsKnown d known
  pub counts : IsCountingOrder d order

-- The fault that is reported of a description, and where.
pub data CheckFaultAt (d : Description) : (fault : CheckFault) (site : Site) → Type 0 where
  of_names : {reported : Reported CheckFault} → first_reported (faults_of_names d) ≡ Some reported → CheckFaultAt d reported.fault reported.site
  of_circle : {r : ReservationItem} → first_reported (faults_of_names d) ≡ None → IsFirst (IsCircular d) d.reservations r
      → CheckFaultAt d circular_reservation (reservation_site r)
  of_meanings : {known : Known} {order : List Reserving} {reported : Reported CheckFault} → IsUnfolded d known order
      → first_reported (faults_of_meanings d known order) ≡ Some reported → CheckFaultAt d reported.fault reported.site

-- The description has no fault, and its names have these alternatives.
pub record IsSound (d : Description) (known : Known) : Type 0 where
  pub order : List Reserving
  pub unfolded : IsUnfolded d known order
  pub free : first_reported (faults_of_meanings d known order) ≡ None
