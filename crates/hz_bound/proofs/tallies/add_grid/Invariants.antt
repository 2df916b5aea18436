use Rattle.hz_bound.proofs.TallyLemmas.{IsPassing}
use Rattle.hz_bound.proofs.tallies.add_grid.Given as goal

-- with the cycles that are left, all are reported
abbrev pub invariant-loop-cycle : goal.invariant-loop-cycle
invariant-loop-cycle l = IsPassing l.grid l.number l.cycle l.cycle-end l.initial.tallies l.tallies
