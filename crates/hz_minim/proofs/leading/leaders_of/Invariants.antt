use Rattle.hz_minim.proofs.LedStates.{LedSoFar}
use Rattle.hz_minim.proofs.leading.leaders_of.Given as goal

abbrev pub invariant-loop-state : goal.invariant-loop-state
invariant-loop-state l = LedSoFar l.blocks l.state l.firsts.items l.leaders.items
