use Rattle.std.proofs.Common.{Some, sym, ap, ◌∙◌}
use Rattle.hz_mdread.specs.Shape.{description}
use Rattle.hz_check.proofs.Built.QuerySteps.{query_reported}
use Rattle.hz_check.proofs.faults.query_under_ndfa.query_under_ndfa.Goals as goal

pub returns-then-unit : goal.returns-then-unit
returns-then-unit c =
    ap Some c.site.ensures
    ∙ sym (query_reported (description c.args.desc.now) c.deref-unit-items.result.now c.loop-unit.unit-index c.unit-item.result c.unit-item.is c.loop-unit-test.true c.loop-unit.invariant c.requires c.if-not-desc.false c.if-unit.true)
