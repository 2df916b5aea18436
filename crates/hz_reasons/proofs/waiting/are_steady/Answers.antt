use Rattle.std.proofs.Common.{below_more, subst, arith}
use Rattle.hz_reasons.specs.Waiting.{IsSteady}
use Rattle.hz_reasons.proofs.Reading.{read_at}
use Rattle.hz_reasons.proofs.waiting.are_steady.Goals as goal

pub loop-grid-preserved : goal.loop-grid-preserved
loop-grid-preserved c = below_more _ _ c.loop-grid.invariant
    (subst (IsSteady c.args.cycles) (read_at c.args.grids.now c.loop-grid.grid-index c.grid-item.result c.grid-item.is (omega arith)) (c.is_steady.ensures c.if-not-is_steady.false))

pub returns : goal.returns
returns c = λ _ a low. c.loop-grid.invariant a (omega arith)
