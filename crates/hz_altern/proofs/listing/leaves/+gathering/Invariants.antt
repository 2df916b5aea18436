use Rattle.std.proofs.Common.{◌≡◌, ◌+◌, ◌*◌, take}
use Rattle.hz_regexp.specs.Shape.{expressions}
use Rattle.hz_altern.specs.Leaves.{IsGathered}
use Rattle.hz_altern.specs.Tables.{known_alternatives}
use Rattle.hz_altern.proofs.Nodes.{nodes, all_nodes}
use Rattle.hz_description_model.specs.Reservations.Alternatives.{in_sequence, together, parts_of}
use Rattle.hz_description_model.specs.Reservations.AlternativeLists.{greatest_length}
use Rattle.hz_altern.proofs.listing.leaves.+gathering.Given as goal

abbrev pub decreases-gather : goal.decreases-gather
decreases-gather l = 2 * nodes l.expr.now

abbrev pub decreases-gather_sequence : goal.decreases-gather_sequence
decreases-gather_sequence l = 2 * all_nodes l.parts.now + 1

abbrev pub decreases-gather_together : goal.decreases-gather_together
decreases-gather_together l = 2 * all_nodes l.parts.now + 1

abbrev pub decreases-gather_copies : goal.decreases-gather_copies
decreases-gather_copies l = 2 * nodes l.part.now + 1

-- the parts so far are gathered, one after another
abbrev pub invariant-gather_sequence-loop-part : goal.invariant-gather_sequence-loop-part
invariant-gather_sequence-loop-part l =
    let these = in_sequence (known_alternatives l.known) (parts_of (expressions (take l.part-index l.parts))) in record {
      length : l.length ≡ greatest_length these;
      gathered : IsGathered l.known l.start these l.initial.leaves l.leaves;
    }

-- the parts so far are gathered, from the same cycle on
abbrev pub invariant-gather_together-loop-part : goal.invariant-gather_together-loop-part
invariant-gather_together-loop-part l =
    let these = together (known_alternatives l.known) (parts_of (expressions (take l.part-index l.parts))) in record {
      length : l.length ≡ greatest_length these;
      gathered : IsGathered l.known l.start these l.initial.leaves l.leaves;
    }
