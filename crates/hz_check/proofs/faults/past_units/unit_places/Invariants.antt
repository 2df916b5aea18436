use Rattle.hz_mdread.specs.Shape.{description}
use Rattle.hz_check.proofs.Telling.PlaceSteps.{ArePlacedTo}
use Rattle.hz_check.proofs.faults.past_units.unit_places.Given as goal

abbrev pub invariant-loop-unit : goal.invariant-loop-unit
invariant-loop-unit l = ArePlacedTo (description l.names.desc.now) l.unit-items l.unit-index l.counts l.places.items
