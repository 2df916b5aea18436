use Rattle.std.proofs.Common.{◌≡◌, [], replicate}
use Rattle.hz_reasons.proofs.calendar.empty_grids.Given as goal

abbrev pub invariant-loop-automaton : goal.invariant-loop-automaton
invariant-loop-automaton l = l.grids.items ≡ replicate l._automaton []
