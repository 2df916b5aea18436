use Rattle.std.proofs.Common.{arith}
use Rattle.hz_grid.proofs.OrderSteps.{equal_rows}
use Rattle.hz_grid.proofs.order.order.Goals as goal

pub returns : goal.returns
returns g c = equal_rows c.args.first.now c.args.second.now c.requires.first c.requires.second (λ k lt. c.loop-cycle.invariant k (omega arith))
