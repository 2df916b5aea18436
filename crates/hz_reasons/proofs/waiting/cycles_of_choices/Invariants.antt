use Rattle.hz_reasons.proofs.WaitingLaws.{WithinUpTo}
use Rattle.hz_reasons.proofs.waiting.cycles_of_choices.Given as goal

abbrev pub invariant-loop-choice : goal.invariant-loop-choice
invariant-loop-choice l = WithinUpTo l.choice-index l.cycles l.choices
