use Rattle.std.proofs.Common.{take}
use Rattle.hz_altern.specs.Tables.{extent_in}
use Rattle.hz_check_reservations.specs.Tables.{HasExtent, Holds, IsAfter}
use Rattle.hz_mdread.specs.Shape.{description}
use Rattle.hz_check_reservations.proofs.listing.extents.add_reservations.Given as goal

abbrev pub invariant-loop-i : goal.invariant-loop-i
invariant-loop-i l = Holds (HasExtent (description l.desc)) (IsAfter (description l.desc) (take l.i l.order)) (extent_in l.extents)
