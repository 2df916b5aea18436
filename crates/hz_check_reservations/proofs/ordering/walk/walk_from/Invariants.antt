use Rattle.std.proofs.Common.{length}
use Rattle.hz_check_reservations.specs.Graphs.{ends_in}
use Rattle.hz_check_reservations.specs.Walks.{lists_of, state_of}
use Rattle.hz_check_reservations.proofs.Walking.{IsWalking}
use Rattle.hz_check_reservations.proofs.WalkEnds.{work_left}
use Rattle.hz_check_reservations.proofs.ordering.walk.walk_from.Given as goal

abbrev pub invariant-loop-frame : goal.invariant-loop-frame
invariant-loop-frame l = IsWalking (ends_in (lists_of l.edges)) l.root (length l.edges) (state_of l.walk)

abbrev pub decreases-loop-frame : goal.decreases-loop-frame
decreases-loop-frame l = work_left (lists_of l.edges) (state_of l.walk)
