-- The automata of units by their forms: units of one form have one automaton.
use Rattle.std.specs.Prelude.{◌≡◌, ℕ, List, Option, Some, None, map, Contains}
use Rattle.std.specs.Ordering.{nat_cmp}
use Rattle.std.specs.BTreeMap.{BTreeMap, get}
use Rattle.hz_base_model.specs.Lines.{place_of}
use Rattle.hz_description_model.specs.Reading.Descriptions.{Description, UnitItem}

-- the place of the automaton of this name, where there is a name and it is defined
abbrev pub automaton_place : Description → Option (List ℕ) → Option ℕ
automaton_place d None = None
automaton_place d (Some name) = place_of name (map (λ a. a.name) d.automata)

-- for the form of each unit the place of its automaton is held
abbrev pub AreHomes : Description → BTreeMap ℕ (Option ℕ) → Type 0
AreHomes d homes = (u : UnitItem) → Contains d.units u → get nat_cmp homes u.form ≡ Some (automaton_place d u.automaton)
