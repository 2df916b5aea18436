use Rattle.hz_minim.specs.Leading.{IsParted}
use Rattle.hz_minim.proofs.settling.parted.Given as goal

abbrev pub invariant-loop-state : goal.invariant-loop-state
invariant-loop-state l = IsParted l.plain.rows l.leaders l.other l.column l.state l.all.items
