use Rattle.std.proofs.Common.{length}
use Rattle.hz_minim.specs.Leading.{IsCoarse}
use Rattle.hz_minim.proofs.LedStates.{led_below}
use Rattle.hz_minim.proofs.settling.settle.Given as goal

abbrev pub invariant-loop-state : goal.invariant-loop-state
invariant-loop-state l = IsCoarse l.plain.rows l.settled.items

abbrev pub decreases-loop-state : goal.decreases-loop-state
decreases-loop-state l = led_below l.settled.items (length l.settled.items)
