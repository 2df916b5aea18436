use Rattle.std.proofs.Common.{◌+◌, ◌*◌, drop}
use Rattle.hz_altern.proofs.Nodes.{nodes, all_nodes}
use Rattle.hz_check_reservations.specs.HabitTables.{habits_in}
use Rattle.hz_check_reservations.proofs.Says.{SaysFrom}
use Rattle.hz_check_reservations.proofs.rules.measuring.+measuring.Given as goal

abbrev pub decreases-habits_of : goal.decreases-habits_of
decreases-habits_of l = 2 * nodes l.expr.now

abbrev pub decreases-habits_of_parts : goal.decreases-habits_of_parts
decreases-habits_of_parts l = 2 * all_nodes l.parts.now + 1

abbrev pub invariant-habits_of_parts-loop-i : goal.invariant-habits_of_parts-loop-i
invariant-habits_of_parts-loop-i l = SaysFrom (habits_in l.table) l.mark (drop l.i l.parts) l.habits
