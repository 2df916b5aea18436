use Rattle.hz_bound.proofs.CycleLemmas.{from_true}
use Rattle.hz_bound.proofs.TallyLemmas.{step_skip}
use Rattle.hz_bound.proofs.tallies.add_row.Goals as goal

pub returns-then-is_empty : goal.returns-then-is_empty
returns-then-is_empty c = step_skip c.args.grid.now c.args.number c.args.cycle 0 256 c.args.tallies.now (λ u le lt h. c.is_empty.ensures.0 (from_true c.is_empty.result c.if-is_empty.true) u ((c.row-row.ensures u).1 h))
