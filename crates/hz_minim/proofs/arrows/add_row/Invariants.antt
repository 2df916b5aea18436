use Rattle.hz_minim.specs.Arrows.{HasRead}
use Rattle.hz_minim.specs.Lists.{lists_of}
use Rattle.hz_minim.proofs.arrows.add_row.Given as goal

abbrev pub invariant-loop-column : goal.invariant-loop-column
invariant-loop-column l = HasRead l.plain.rows l.state l.column (lists_of l.arrows.items)
