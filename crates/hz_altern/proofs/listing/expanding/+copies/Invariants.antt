use Rattle.hz_altern.proofs.listing.expanding.+copies.Given as goal

abbrev pub decreases-copies : goal.decreases-copies
decreases-copies l = l.times
