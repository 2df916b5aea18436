use Rattle.std.proofs.Common.{◌≡◌, map, take}
use Rattle.hz_check_reservations.specs.Shape.{place_of}
use Rattle.hz_reasons.specs.Plans.{unit_of}
use Rattle.hz_reasons.proofs.planning.sets.units.Given as goal

abbrev pub invariant-loop-place : goal.invariant-loop-place
invariant-loop-place l = map unit_of l.units.items ≡ map place_of (take l.place-index l.places)
