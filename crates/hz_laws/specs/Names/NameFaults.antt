-- Where the faults of names stand that are reported by name spaces, automata and sets. This profile, docs/RULES.md, 'Names' and
-- 'Faults of a description'.
use Rattle.std.specs.Prelude.{◌≡◌, ◌≢◌, ◌⊎◌, ℕ, List, [], ◌∷◌, ◌++◌, Some, None, codes, map}
use Rattle.std.specs.Option.{option_map}
use Rattle.std.specs.List.{Contains, flat_map}
use Rattle.hz_description_model.specs.Reservations.Sets.{exclusion}
use Rattle.hz_description_model.specs.Reading.Descriptions.{Description, AutomatonItem, UnitItem, SetItem, AttributeItem}
use Rattle.hz_description_model.specs.Check.Places.{unit_place}
use Rattle.hz_description_model.specs.Check.Sites.{Site}
use Rattle.hz_description_model.specs.Check.ReportedPlaces.{StandsBefore}

-- a name in the form of this line and number
abbrev pub site_at : ℕ → ℕ → List ℕ → Site
site_at line form name = record { line = line; form = form; name = name }

-- the site is in that form
abbrev pub IsAt : Site → ℕ → ℕ → Type 0
IsAt s line form = (s.line ≡ line) × (s.form ≡ form)

-- the names of units, where their forms define them
abbrev pub names_of_units : Description → List Site
names_of_units d = map (λ u. site_at u.line u.form u.name) d.units

-- those of reservations
abbrev pub names_of_reservations : Description → List Site
names_of_reservations d = map (λ r. site_at r.line r.form r.name) d.reservations

-- Names of one list, with the others of their name space: units and reservations share one, automata, classes and
-- attributes each have their own, and each attribute has one for its values.
pub data IsNameSpace (d : Description) : (others sites : List Site) → Type 0 where
  of_automata : IsNameSpace d [] (map (λ a. site_at a.line a.form a.name) d.automata)
  of_units : IsNameSpace d (names_of_reservations d) (names_of_units d)
  of_reservations : IsNameSpace d (names_of_units d) (names_of_reservations d)
  of_classes : IsNameSpace d [] (map (λ c. site_at c.line c.form c.name) d.classes)
  of_attributes : IsNameSpace d [] (map (λ a. site_at a.line a.form a.name) d.attributes)
  of_values : {a : AttributeItem} → Contains d.attributes a → IsNameSpace d [] (map (λ value. site_at a.line a.form value) a.values)

-- An equal name stands before it in its name space.
pub record IsSecondName (d : Description) (s : Site) : Type 0 where
  pub others : List Site
  pub sites : List Site
  pub before : List Site
  pub after : List Site
  pub space : IsNameSpace d others sites
  pub parts : sites ≡ before ++ s ∷ after
  pub second : StandsBefore others before s

-- A unit or a reservation is called `nothing`.
pub record IsReservedName (d : Description) (s : Site) : Type 0 where
  pub there : Contains (names_of_units d) s ⊎ Contains (names_of_reservations d) s
  pub reserved : s.name ≡ codes "nothing"

-- A unit names this automaton, and none is called so.
pub record IsUnknownAutomaton (d : Description) (s : Site) : Type 0 where
  pub u : UnitItem
  pub there : Contains d.units u
  pub named : u.automaton ≡ Some s.name
  pub place : IsAt s u.line u.form
  pub unknown : (a : AutomatonItem) → Contains d.automata a → a.name ≢ s.name

-- The unit names no automaton, and some automaton is defined.
pub record IsWithoutAutomaton (d : Description) (s : Site) : Type 0 where
  pub a : AutomatonItem
  pub defined : Contains d.automata a
  pub u : UnitItem
  pub there : Contains d.units u
  pub named : u.automaton ≡ None
  pub is : s ≡ site_at u.line u.form u.name

-- The unit stands in both strings of an exclusion.
pub record IsSelfExclusion (d : Description) (s : Site) : Type 0 where
  pub e : SetItem
  pub there : Contains d.sets e
  pub kind : e.kind ≡ exclusion
  pub unit : Contains e.units s.name
  pub pattern : List (List ℕ)
  pub other : Contains e.patterns pattern
  pub again : Contains pattern s.name
  pub place : IsAt s e.line e.form

-- A unit of the set, the units of its first string standing before those of its second, whose automaton is not that of the first.
pub record IsStranger (d : Description) (s : Site) : Type 0 where
  pub e : SetItem
  pub there : Contains d.sets e
  pub first : List ℕ
  pub others : List (List ℕ)
  pub names : e.units ++ flat_map (λ pattern. pattern) e.patterns ≡ first ∷ others
  pub named : Contains others s.name
  pub apart : option_map (λ u. u.automaton) (unit_place d s.name) ≢ option_map (λ u. u.automaton) (unit_place d first)
  pub place : IsAt s e.line e.form
