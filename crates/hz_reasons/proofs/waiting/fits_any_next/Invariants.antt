use Rattle.hz_reasons.specs.Waiting.{AreNextUpTo}
use Rattle.hz_reasons.proofs.waiting.fits_any_next.Given as goal

abbrev pub invariant-loop-entry : goal.invariant-loop-entry
invariant-loop-entry l = AreNextUpTo l.plan.rules.items l.choices l.entry-index l.initial.entries l.entries
