-- Where units stand, by automaton and number, and what names stand for. This profile, docs/RULES.md.
use Rattle.std.specs.Prelude.{ℕ, ◌==◌, List, [], ◌∷◌, ◌++◌, map, count_by, Option, Some, None, unwrap_or, if◌then◌else◌}
use Rattle.std.specs.List.{filter_map}
use Rattle.std.specs.Str.{bytes_eq}
use Rattle.hz_base_model.specs.Lines.{place_of}
use Rattle.hz_description_model.specs.Reservations.Alternatives.{Alternative}
use Rattle.hz_description_model.specs.Reservations.Automata.{UnitPlace}
use Rattle.hz_description_model.specs.Reservations.Sets.{Statement}
use Rattle.hz_description_model.specs.Reservations.Meanings.{Meaning, unit, reservation, Unwinds, Expands}
use Rattle.hz_description_model.specs.Reading.Descriptions.{Description, UnitItem, ReservationItem, SetItem}

-- the names of the classes in their order
abbrev pub class_names : Description → List (List ℕ)
class_names d = map (λ c. c.name) d.classes

-- the number of the automaton of a unit: 0 where the unit names none, or one that is not defined
abbrev pub automaton_number : Description → Option (List ℕ) → ℕ
automaton_number d None = 0
automaton_number d (Some name) = unwrap_or (place_of name (map (λ a. a.name) d.automata)) 0

-- the numbers of the automata of units
abbrev pub automaton_numbers : Description → List UnitItem → List ℕ
automaton_numbers d units = map (λ u. automaton_number d u.automaton) units

-- the place of a unit after those before it: its automaton, and how many of them are of it
abbrev pub place_after : Description → List UnitItem → UnitItem → UnitPlace
place_after d before u =
    record { automaton = automaton_number d u.automaton; unit = count_by (λ a. a == automaton_number d u.automaton) (automaton_numbers d before) }

-- the places of units, of which these stand before the first
abbrev pub places_after : Description → List UnitItem → List UnitItem → List UnitPlace
places_after d before [] = []
places_after d before (u ∷ units) = place_after d before u ∷ places_after d (before ++ u ∷ []) units

-- the places of all units, in the order of the file
abbrev pub unit_places : Description → List UnitPlace
unit_places d = places_after d [] d.units

-- the item at the first place of its name
abbrev pub at_name : {A : Type 0} → List ℕ → List (List ℕ) → List A → Option A
at_name name [] items = None
at_name name (n ∷ names) [] = None
at_name name (n ∷ names) (item ∷ items) = if bytes_eq name n then Some item else at_name name names items

-- the place of the unit of this name
abbrev pub unit_place : Description → List ℕ → Option UnitPlace
unit_place d name = at_name name (map (λ u. u.name) d.units) (unit_places d)

-- the reservation of this name
abbrev pub reservation_named : Description → List ℕ → Option ReservationItem
reservation_named d name = at_name name (map (λ r. r.name) d.reservations) d.reservations

-- a unit, or else a reservation
abbrev pub unit_or_reservation : Option UnitPlace → Option ReservationItem → Option (Meaning UnitPlace)
unit_or_reservation (Some u) _ = Some (unit u)
unit_or_reservation None (Some r) = Some (reservation r.expression)
unit_or_reservation None None = None

-- what a name stands for
abbrev pub meaning : Description → List ℕ → Option (Meaning UnitPlace)
meaning d name = unit_or_reservation (unit_place d name) (reservation_named d name)

-- the units of these names
abbrev pub places_of : Description → List (List ℕ) → List UnitPlace
places_of d names = filter_map (unit_place d) names

-- a set statement on the units of its names
abbrev pub statement_of : Description → SetItem → Statement UnitPlace
statement_of d s = record { kind = s.kind; units = places_of d s.units; patterns = map (places_of d) s.patterns }

-- what a description has for each name
abbrev pub Known : Type 0
Known = List ℕ → List (Alternative UnitPlace)

-- each name has the alternatives of what it stands for, and no reservation reaches itself
pub record IsKnown (d : Description) (known : Known) : Type 0 where
  pub unwinds : Unwinds (meaning d)
  pub expands : Expands (meaning d) known
