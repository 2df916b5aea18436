use Rattle.hz_minim.specs.Leading.{Follows}
use Rattle.hz_minim.proofs.settling.straying.Given as goal

abbrev pub invariant-loop-column : goal.invariant-loop-column
invariant-loop-column l = Follows l.plain.rows l.leaders l.state l.column
