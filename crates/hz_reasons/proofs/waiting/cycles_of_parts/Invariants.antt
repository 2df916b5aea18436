use Rattle.hz_reasons.proofs.WaitingLaws.{EndUpTo}
use Rattle.hz_reasons.proofs.waiting.cycles_of_parts.Given as goal

abbrev pub invariant-loop-part : goal.invariant-loop-part
invariant-loop-part l = EndUpTo l.part-index l.cycles l.parts
