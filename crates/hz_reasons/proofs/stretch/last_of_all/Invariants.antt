use Rattle.std.proofs.Common.{◌≡◌, max, drop}
use Rattle.hz_reasons.specs.Holding.{last_of_classes}
use Rattle.hz_reasons.proofs.stretch.last_of_all.Given as goal

abbrev pub invariant-loop-choices : goal.invariant-loop-choices
invariant-loop-choices l = last_of_classes l.classes ≡ max (last_of_classes (drop l.choices-index l.classes)) l.last
