use Rattle.std.proofs.Common.{◌≡◌, ◌-◌, ◌≤◌, [], replicate, vec_len}
use Rattle.hz_check_reservations.specs.Walks.{lists_of}
use Rattle.hz_check_reservations.proofs.ordering.circle.empty_lists.Given as goal

abbrev pub invariant-loop-alloc : goal.invariant-loop-alloc
invariant-loop-alloc l = (lists_of l.lists.items ≡ replicate (vec_len l.lists) []) × (vec_len l.lists ≤ l.count)

abbrev pub decreases-loop-alloc : goal.decreases-loop-alloc
decreases-loop-alloc l = l.count - vec_len l.lists
