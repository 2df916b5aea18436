use Rattle.std.proofs.Common.{drop, length}
use Rattle.hz_check_reservations.specs.Circles.{knowledge_of}
use Rattle.hz_check_reservations.specs.Walks.{lists_of}
use Rattle.hz_check_reservations.proofs.Around.{IsKnownOf}
use Rattle.hz_check_reservations.proofs.ordering.circle.first_around.Given as goal

abbrev pub invariant-loop-i : goal.invariant-loop-i
invariant-loop-i l = IsKnownOf (lists_of l.edges) (lists_of l.starts.items) (length l.edges) (drop l.i l.order) (knowledge_of l.labels)
