use Rattle.std.proofs.Common.{take}
use Rattle.hz_check_reservations.specs.Tables.{Holds, IsAfter}
use Rattle.hz_mdread.specs.Shape.{description}
use Rattle.hz_check_reservations.specs.HabitTables.{HasHabits, habits_in}
use Rattle.hz_check_reservations.proofs.rules.breaking.add_reservations.Given as goal

abbrev pub invariant-loop-i : goal.invariant-loop-i
invariant-loop-i l = Holds (HasHabits (description l.desc)) (IsAfter (description l.desc) (take l.i l.order)) (habits_in l.table)
