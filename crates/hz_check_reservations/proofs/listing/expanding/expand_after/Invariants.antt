use Rattle.hz_check_reservations.proofs.Sizes.{Progress}
use Rattle.hz_mdread.specs.Shape.{description}
use Rattle.hz_check_reservations.proofs.listing.expanding.expand_after.Given as goal

abbrev pub invariant-loop-i : goal.invariant-loop-i
invariant-loop-i l = Progress (description l.desc) l.order l.i l.expansion
