use Rattle.std.proofs.Common.{drop, map}
use Rattle.hz_altern.specs.Tables.{extent_in}
use Rattle.hz_check_reservations.specs.Past.{TellsAfter}
use Rattle.hz_check_reservations.proofs.listing.extents.past_among.Given as goal

abbrev pub invariant-loop-i : goal.invariant-loop-i
invariant-loop-i g l = TellsAfter (extent_in l.extents) (drop l.i (map g.T.Reserves.reserves l.items)) l.initial.past l.past
