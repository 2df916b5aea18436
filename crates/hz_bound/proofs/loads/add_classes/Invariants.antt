use Rattle.std.proofs.Common.{length}
use Rattle.hz_bound.specs.Shape.{lists_in}
use Rattle.hz_bound.specs.Sums.{AreTotals}
use Rattle.hz_bound.proofs.loads.add_classes.Given as goal

-- what the classes so far take is reported
abbrev pub invariant-loop-number : goal.invariant-loop-number
invariant-loop-number l = AreTotals (lists_in l.classes) l.automaton l.times l.number (length l.initial.totals) l.totals
