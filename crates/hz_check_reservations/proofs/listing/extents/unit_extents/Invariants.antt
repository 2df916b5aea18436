use Rattle.std.proofs.Common.{take, Contains}
use Rattle.hz_altern.specs.Tables.{extent_in}
use Rattle.hz_check_reservations.specs.Tables.{HasExtent, Holds, unit_names}
use Rattle.hz_mdread.specs.Shape.{description}
use Rattle.hz_check_reservations.proofs.listing.extents.unit_extents.Given as goal

abbrev pub invariant-loop-unit : goal.invariant-loop-unit
invariant-loop-unit l = Holds (HasExtent (description l.desc)) (Contains (take l.unit-index (unit_names (description l.desc)))) (extent_in l.extents)
