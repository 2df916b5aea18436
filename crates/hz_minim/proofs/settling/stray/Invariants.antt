use Rattle.hz_minim.specs.Leading.{AllFollow}
use Rattle.hz_minim.proofs.settling.stray.Given as goal

abbrev pub invariant-loop-state : goal.invariant-loop-state
invariant-loop-state l = AllFollow l.plain.rows l.plain.columns l.leaders l.state
