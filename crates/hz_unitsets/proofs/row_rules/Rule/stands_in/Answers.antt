use Rattle.std.proofs.Common.{below_more, arith}
use Rattle.hz_unitsets.proofs.row_rules.Rule.stands_in.Goals as goal

pub loop-cycle-preserved : goal.loop-cycle-preserved
loop-cycle-preserved c = below_more _ _ c.loop-cycle.invariant (λ h. let t = c.stands_at.ensures.1 h in let n = c.if-stands_at.false in absurd (cc))

pub returns : goal.returns
returns c = (
  λ t. absurd (cc),
  λ h.
      let some = h.1 in
      let below = c.length-cycle-end.ensures.above some.0 h.0 some.2 in
      absurd (c.loop-cycle.invariant h.0 (omega (arith, below, c.loop-cycle-test.false)) (h.1, h.2)),
)
