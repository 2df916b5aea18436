use Rattle.std.proofs.Common.{arith}
use Rattle.hz_reasons.proofs.WaitingLaws.{steady_more, steady_all}
use Rattle.hz_reasons.proofs.waiting.is_steady.Goals as goal

pub loop-cycle-preserved : goal.loop-cycle-preserved
loop-cycle-preserved c = steady_more c.args.grid.now c.loop-cycle.cycle c.row.result c.row-in-loop-cycle.result c.row.ensures c.row-in-loop-cycle.ensures (c.has_same_units.ensures c.if-not-has_same_units.false) c.loop-cycle.invariant

pub returns : goal.returns
returns c = λ _. steady_all c.args.grid.now c.loop-cycle.cycle c.length.result c.args.cycles c.length.ensures.above (omega arith) c.loop-cycle.invariant
