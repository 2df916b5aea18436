use Rattle.std.proofs.Common.{drop}
use Rattle.hz_description_model.specs.Check.CountingOrder.{classes_of}
use Rattle.hz_mdread.specs.Shape.{description}
use Rattle.hz_check_reservations.proofs.BrokenClasses.{AreBrokenAmong}
use Rattle.hz_check_reservations.proofs.rules.breaking.broken_rules.Given as goal

abbrev pub invariant-loop-i : goal.invariant-loop-i
invariant-loop-i l = AreBrokenAmong (description l.desc) (drop l.i (classes_of (description l.desc))) l.broken
