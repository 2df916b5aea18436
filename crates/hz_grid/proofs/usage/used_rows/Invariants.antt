use Rattle.hz_grid.proofs.UsedLemmas.{UsedBefore}
use Rattle.hz_grid.proofs.usage.used_rows.Given as goal

abbrev pub invariant-loop-cycle : goal.invariant-loop-cycle
invariant-loop-cycle l = UsedBefore l.grid l.rows.items l.cycle
