use Rattle.std.proofs.Common.{arith}
use Rattle.hz_reasons.proofs.WaitingLaws.{ends_more, ends_all}
use Rattle.hz_reasons.proofs.waiting.cycles_of_grids.Goals as goal

pub loop-grid-preserved : goal.loop-grid-preserved
loop-grid-preserved c = ends_more c.args.grids.now c.loop-grid.grid-index c.grid-item.result c.length.result c.loop-grid.cycles _ c.grid-item.is (omega arith) (omega arith) c.length.ensures.above c.loop-grid.invariant

pub returns : goal.returns
returns c = ends_all c.args.grids.now c.loop-grid.grid-index c.loop-grid.cycles (omega arith) c.loop-grid.invariant
