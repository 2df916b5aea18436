-- What is made of a description without a fault while it is still whole.
pub mod Assembly
pub mod Classes
use Rattle.std.specs.Prelude.{◌≡◌, map, All}
use Rattle.hz_altern.specs.Shapes.{alternatives}
use Rattle.hz_check.specs.declared.parts.Parts.{Parts}
use Rattle.hz_check.specs.Parts.Assembly.{placed_statement, IsPlaced}
use Rattle.hz_checked.specs.Shape.{automaton_of, bypass_of}
use Rattle.hz_check_reservations.specs.Shape.{lists_of, place_of}
use Rattle.hz_description_model.specs.Reservations.AlternativeLists.{AreSound}
use Rattle.hz_description_model.specs.Reservations.Alternatives.{alternatives_of}
use Rattle.hz_description_model.specs.Reservations.Automata.{listed}
use Rattle.hz_description_model.specs.Check.CheckFaults.{IsSound}
use Rattle.hz_description_model.specs.Check.Places.{Known, statement_of, unit_places}
use Rattle.hz_description_model.specs.Check.CheckedParts.{automata_of, bypass_parts}
use Rattle.hz_description_model.specs.Reading.Descriptions.{Description}

-- the description has no fault, and these are its automata, the places of its units, its bypasses, its set statements and the
-- alternatives of its classes
pub record IsPartsOf (d : Description) (parts : Parts) : Type 0 where
  pub known : Known
  pub sound : IsSound d known
  pub automata : map automaton_of parts.automata.items ≡ automata_of d
  pub places : map place_of parts.places.items ≡ unit_places d
  pub bypasses : map bypass_of parts.bypasses.items ≡ map (bypass_parts d) d.bypasses
  pub sets : map placed_statement parts.sets.items ≡ map (statement_of d) d.sets
  pub placed : All IsPlaced parts.sets.items
  pub lists : lists_of parts.lists.items ≡ map (λ c. map listed (alternatives_of known c.expression)) d.classes
  pub each : All (λ list. AreSound (alternatives list.items)) parts.lists.items
