use Rattle.hz_minim.specs.Arrows.{HasRead}
use Rattle.hz_minim.specs.Lists.{lists_of}
use Rattle.hz_minim.proofs.arrows.arrows_of.Given as goal

abbrev pub invariant-loop-state : goal.invariant-loop-state
invariant-loop-state l = HasRead l.plain.rows l.state 0 (lists_of l.arrows.items)
