use Rattle.hz_reasons.proofs.WaitingLaws.{EndUpTo}
use Rattle.hz_reasons.proofs.waiting.cycles_of_grids.Given as goal

abbrev pub invariant-loop-grid : goal.invariant-loop-grid
invariant-loop-grid l = EndUpTo l.grid-index l.cycles l.grids
