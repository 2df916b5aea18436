use Rattle.std.proofs.Common.{ℕ, ◌+◌, ◌-◌, ◌≤◌, List, ◌++◌, length, drop}
use Rattle.hz_check_reservations.specs.Orders.{Numbered, class_reservings_of, reservings_of}
use Rattle.hz_check_reservations.proofs.ordering.graph.file_order.Given as goal

abbrev pub invariant-loop-i : goal.invariant-loop-i
invariant-loop-i l = record {
  first : l.i ≤ length l.reservations;
  second : l.j ≤ length l.classes;
  rest : (rest : List ℕ) → Numbered (drop l.i (reservings_of l.reservations)) (drop l.j (class_reservings_of l.classes)) l.i (length l.reservations + l.j) rest
      → Numbered (reservings_of l.reservations) (class_reservings_of l.classes) 0 (length l.reservations) (l.file.items ++ rest);
}

abbrev pub decreases-loop-i : goal.decreases-loop-i
decreases-loop-i l = (length l.reservations - l.i) + (length l.classes - l.j)
