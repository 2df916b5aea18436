use Rattle.std.proofs.Common.{◌≡◌, ◌++◌, All, map, drop}
use Rattle.hz_mdread.specs.Shape.{description}
use Rattle.hz_check.specs.Faults.PastUnits.{IsWithin}
use Rattle.hz_check_reservations.specs.Shape.{place_of}
use Rattle.hz_description_model.specs.Check.Places.{places_of}
use Rattle.hz_check.proofs.parts.placed_sets.places_of.Given as goal

abbrev pub invariant-loop-unit : goal.invariant-loop-unit
invariant-loop-unit l = record {
  places : map place_of l.found.items ++ places_of (description l.names.desc.now) (drop l.unit-index l.units) ≡ places_of (description l.names.desc.now) l.units;
  within : All IsWithin l.found.items;
}
