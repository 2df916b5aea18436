use Rattle.std.proofs.Common.{sym, ap, ◌∙◌, subst}
use Rattle.hz_unitsets.specs.declared.set_rules.SetRule.{SetRule}
use Rattle.hz_unitsets.specs.SetRules.{statement_of, IsInRange, ordered}
use Rattle.hz_unitsets.proofs.Distinct.{more_rules}
use Rattle.hz_unitsets.proofs.rules.distinct.Goals as goal

pub build-requires : goal.build-requires
build-requires c = subst IsInRange (sym c.set-item.is) (c.requires c.loop-set.set-index c.set-item.result c.loop-set-test.true)

pub loop-set-preserved : goal.loop-set-preserved
loop-set-preserved c =
    let statement = c.in_ok-build.ensures.statement ∙ ap (λ (set : SetRule). ordered (statement_of set)) c.set-item.is in
    more_rules c.args.sets.now c.loop-set.set-index c.set-item.result _ _ c.in_ok-build.field-0 c.loop-set-test.true c.loop-set.invariant statement c.in_ok-keep.ensures.bounded c.in_ok-keep.ensures.kept
