use Rattle.std.proofs.Common.{◌+◌, ◌*◌, take}
use Rattle.hz_altern.proofs.Nodes.{nodes, all_nodes}
use Rattle.hz_altern.specs.Singles.{TellSingles}
use Rattle.hz_altern.specs.Tables.{known_alternatives}
use Rattle.hz_description_model.specs.Reservations.Alternatives.{parts_of}
use Rattle.hz_regexp.specs.Shape.{expressions}
use Rattle.hz_altern.proofs.listing.singles.+finding.Given as goal

abbrev pub decreases-find_singles : goal.decreases-find_singles
decreases-find_singles l = 2 * nodes l.expr.now

abbrev pub decreases-find_singles_in : goal.decreases-find_singles_in
decreases-find_singles_in l = 2 * all_nodes l.parts.now + 1

-- the parts so far are reported
abbrev pub invariant-find_singles_in-loop-part : goal.invariant-find_singles_in-loop-part
invariant-find_singles_in-loop-part l = TellSingles (known_alternatives l.known) (parts_of (expressions (take l.part-index l.parts))) l.all.items
