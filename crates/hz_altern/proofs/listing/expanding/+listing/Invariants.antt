use Rattle.std.proofs.Common.{◌+◌, ◌*◌, take}
use Rattle.hz_altern.specs.Beside.{IsBeside}
use Rattle.hz_altern.proofs.Nodes.{nodes, all_nodes}
use Rattle.hz_regexp.specs.Shape.{expressions}
use Rattle.hz_altern.proofs.listing.expanding.+listing.Given as goal

abbrev pub decreases-listing : goal.decreases-listing
decreases-listing l = 6 * nodes l.expr.now

abbrev pub decreases-listing_parts : goal.decreases-listing_parts
decreases-listing_parts l = 6 * all_nodes l.parts.now + 5

abbrev pub decreases-listing_together : goal.decreases-listing_together
decreases-listing_together l = 6 * all_nodes l.parts.now + 5

abbrev pub decreases-listing_added : goal.decreases-listing_added
decreases-listing_added l = 6 * all_nodes l.parts.now + 4

abbrev pub decreases-add_parts : goal.decreases-add_parts
decreases-add_parts l = 6 * all_nodes l.parts.now + 3

abbrev pub decreases-add_part : goal.decreases-add_part
decreases-add_part l = 6 * all_nodes l.parts.now + 2

abbrev pub decreases-listing_beside : goal.decreases-listing_beside
decreases-listing_beside l = 6 * nodes l.part.now + 1

-- the parts so far
abbrev pub invariant-add_parts-loop-place : goal.invariant-add_parts-loop-place
invariant-add_parts-loop-place l = IsBeside l.known (expressions (take l.place l.parts)) l.beside.leaves l.beside.length l.beside.others
