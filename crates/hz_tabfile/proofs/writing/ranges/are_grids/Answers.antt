use Rattle.std.proofs.Common.{arith}
use Rattle.hz_grid.specs.Grids.{IsGrid}
use Rattle.hz_tabfile.proofs.Ranges.{all_more, all_done}
use Rattle.hz_tabfile.proofs.writing.ranges.are_grids.Goals as goal

pub loop-grid-preserved : goal.loop-grid-preserved
loop-grid-preserved c = all_more IsGrid c.args.grids.now c.loop-grid.grid-index c.grid-item.result (omega arith) c.grid-item.is c.loop-grid.invariant c.kept.ensures

pub returns : goal.returns
returns c = all_done IsGrid c.args.grids.now c.loop-grid.grid-index (omega arith) c.loop-grid.invariant
