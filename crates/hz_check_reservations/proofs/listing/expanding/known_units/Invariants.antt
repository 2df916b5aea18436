use Rattle.std.proofs.Common.{take, Contains}
use Rattle.hz_altern.specs.Tables.{alternatives_in}
use Rattle.hz_check_reservations.specs.Tables.{HasAlternatives, Holds, unit_names}
use Rattle.hz_mdread.specs.Shape.{description}
use Rattle.hz_check_reservations.proofs.listing.expanding.known_units.Given as goal

abbrev pub invariant-loop-i : goal.invariant-loop-i
invariant-loop-i l = Holds (HasAlternatives (description l.desc)) (Contains (take l.i (unit_names (description l.desc)))) (alternatives_in l.known)
