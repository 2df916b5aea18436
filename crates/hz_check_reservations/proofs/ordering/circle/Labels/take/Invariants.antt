use Rattle.hz_check_reservations.specs.Circles.{knowledge_of}
use Rattle.hz_check_reservations.specs.Graphs.{ends_in}
use Rattle.hz_check_reservations.specs.Walks.{lists_of}
use Rattle.hz_check_reservations.proofs.Taking.{IsTaking, pending_work}
use Rattle.hz_check_reservations.proofs.ordering.circle.Labels.take.Given as goal

abbrev pub invariant-loop-end : goal.invariant-loop-end
invariant-loop-end l = IsTaking (ends_in (lists_of l.starts)) l.node (knowledge_of l.fn.self) (knowledge_of l.self)

abbrev pub decreases-loop-end : goal.decreases-loop-end
decreases-loop-end l = pending_work (knowledge_of l.self)
