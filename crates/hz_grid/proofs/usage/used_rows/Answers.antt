use Rattle.std.proofs.Common.{arith}
use Rattle.hz_grid.proofs.UsedLemmas.{used_more, all_used}
use Rattle.hz_grid.proofs.usage.used_rows.Goals as goal

pub loop-cycle-preserved : goal.loop-cycle-preserved
loop-cycle-preserved c =
    used_more c.args.grid.now c.loop-cycle.rows.items c.keep_used.new.rows.items c.loop-cycle.cycle c.row.result c.loop-cycle.invariant c.row.ensures c.in_ok-keep_used.ensures

pub returns : goal.returns
returns c =
    all_used c.args.grid.now c.loop-cycle.rows.items c.loop-cycle.cycle c.loop-cycle.invariant
    (λ unit cycle h. let below = c.length-cycle-end.ensures.above unit cycle h in omega (arith, below, c.loop-cycle-test.false))
