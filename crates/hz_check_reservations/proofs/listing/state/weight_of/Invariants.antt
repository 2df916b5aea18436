use Rattle.std.proofs.Common.{◌≡◌, drop}
use Rattle.hz_altern.specs.Answers.{total_weight}
use Rattle.hz_altern.specs.Shapes.{alternatives}
use Rattle.hz_check_reservations.proofs.listing.state.weight_of.Given as goal

abbrev pub invariant-loop-i : goal.invariant-loop-i
invariant-loop-i l = l.weight ≡ total_weight (alternatives (drop l.i l.alts))
