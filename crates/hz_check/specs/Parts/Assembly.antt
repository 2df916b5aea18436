-- What is put together of a description without a fault.
use Rattle.std.specs.Prelude.{map, All}
use Rattle.hz_check.specs.declared.parts.placed_sets.PlacedSet.{PlacedSet}
use Rattle.hz_check.specs.Faults.PastUnits.{IsWithin}
use Rattle.hz_check_reservations.specs.Shape.{place_of}
use Rattle.hz_unitsets.specs.SetRules.{kind_of}
use Rattle.hz_description_model.specs.Reservations.Automata.{UnitPlace}
use Rattle.hz_description_model.specs.Reservations.Sets.{Statement}

-- a set statement on units by their places
abbrev pub placed_statement : PlacedSet → Statement UnitPlace
placed_statement s = record { kind = kind_of s.kind; units = map place_of s.units.items; patterns = map (λ pattern. map place_of pattern.items) s.patterns.items }

-- its units are some that automata may have
pub record IsPlaced (s : PlacedSet) : Type 0 where
  pub units : All IsWithin s.units.items
  pub patterns : All (λ pattern. All IsWithin pattern.items) s.patterns.items
