use Rattle.std.proofs.Common.{take}
use Rattle.hz_check_reservations.specs.Circles.{AddsStarts}
use Rattle.hz_check_reservations.specs.Walks.{lists_of}
use Rattle.hz_check_reservations.proofs.ordering.circle.add_starts.Given as goal

abbrev pub invariant-loop-end : goal.invariant-loop-end
invariant-loop-end l = AddsStarts l.start (take l.end-index l.ends) (lists_of l.initial.starts.items) (lists_of l.starts.items)
