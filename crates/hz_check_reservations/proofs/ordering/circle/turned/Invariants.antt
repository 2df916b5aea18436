use Rattle.hz_check_reservations.specs.Walks.{lists_of}
use Rattle.hz_check_reservations.proofs.Turning.{IsTurnedBelow}
use Rattle.hz_check_reservations.proofs.ordering.circle.turned.Given as goal

abbrev pub invariant-loop-node : goal.invariant-loop-node
invariant-loop-node l = IsTurnedBelow (lists_of l.edges) (lists_of l.starts.items) l.node
