use Rattle.std.proofs.Common.{◌≡◌, max, drop}
use Rattle.hz_reasons.specs.Holding.{last_of_choices}
use Rattle.hz_reasons.proofs.stretch.last_of_class.Given as goal

abbrev pub invariant-loop-choice : goal.invariant-loop-choice
invariant-loop-choice l = last_of_choices l.choices ≡ max (last_of_choices (drop l.choice-index l.choices)) l.last
