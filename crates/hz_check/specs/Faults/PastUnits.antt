-- The places of units.
use Rattle.std.specs.Prelude.{◌≡◌, ◌<◌, List, [], map, All}
use Rattle.hz_check_reservations.specs.declared.listing.unit_place.UnitPlace.{UnitPlace as Place}
use Rattle.hz_check_reservations.specs.Shape.{place_of}
use Rattle.hz_description_model.specs.Check.CheckFaults.{past_units}
use Rattle.hz_description_model.specs.Reading.Descriptions.{Description}
use Rattle.hz_base_model.specs.Limits.{automaton_limit, unit_limit}
use Rattle.hz_description_model.specs.Check.Places.{unit_places}

-- the unit is one that an automaton may have
pub record IsWithin (p : Place) : Type 0 where
  pub automaton : p.automaton < automaton_limit
  pub unit : p.unit < unit_limit

-- the places of all units, none of which is past the limit of its automaton
pub record ArePlaces (d : Description) (places : List Place) : Type 0 where
  pub each : All IsWithin places
  pub all : map place_of places ≡ unit_places d
  pub within : past_units d.units (unit_places d) ≡ []
