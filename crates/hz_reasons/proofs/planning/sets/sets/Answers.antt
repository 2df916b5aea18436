use Rattle.std.proofs.Common.{map, ap, sym, ◌∙◌, subst}
use Rattle.hz_check.specs.Parts.Assembly.{placed_statement, IsPlaced}
use Rattle.hz_reasons.specs.Plans.{statement_of}
use Rattle.hz_reasons.proofs.PlanLaws.{made_more}
use Rattle.hz_reasons.proofs.planning.sets.sets.Goals as goal

pub loop-one-preserved : goal.loop-one-preserved
loop-one-preserved c =
    ap (map statement_of) c.in_ok-push.ensures.items
    ∙ made_more statement_of placed_statement c.loop-one.sets.items c.args.placed.now c.loop-one.one-index c.in_ok-set.set c.one-item.result c.one-item.is c.loop-one-test.true c.loop-one.invariant c.in_ok-set.ensures

pub set-requires : goal.set-requires
set-requires c = subst IsPlaced (sym c.one-item.is) (c.requires c.loop-one.one-index c.one-item.result c.loop-one-test.true)
