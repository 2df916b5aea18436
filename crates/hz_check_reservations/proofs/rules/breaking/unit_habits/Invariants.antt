use Rattle.std.proofs.Common.{take, Contains}
use Rattle.hz_check_reservations.specs.Tables.{Holds, unit_names}
use Rattle.hz_mdread.specs.Shape.{description}
use Rattle.hz_check_reservations.specs.HabitTables.{HasHabits, habits_in}
use Rattle.hz_check_reservations.proofs.rules.breaking.unit_habits.Given as goal

abbrev pub invariant-loop-i : goal.invariant-loop-i
invariant-loop-i l = Holds (HasHabits (description l.desc)) (Contains (take l.i (unit_names (description l.desc)))) (habits_in l.table)
