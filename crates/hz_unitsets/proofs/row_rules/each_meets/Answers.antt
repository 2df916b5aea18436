use Rattle.std.proofs.Common.{arith}
use Rattle.std.proofs.lemmas.List.{get_or_read}
use Rattle.hz_unitsets.specs.RowRules.{HasKey}
use Rattle.hz_unitsets.proofs.Blocks.{more_items}
use Rattle.hz_unitsets.proofs.row_rules.each_meets.Goals as goal

pub loop-row-preserved : goal.loop-row-preserved
loop-row-preserved c =
    more_items (λ row. HasKey row c.args.keys) c.args.rows.now c.loop-row.row-index c.row-item.result c.loop-row.invariant
    (λ e. get_or_read c.args.rows.now c.loop-row.row-index c.row-item.result c.loop-row-test.true c.row-item.is e) (c.has_key.ensures.0 c.if-not-has_key.false)

pub returns : goal.returns
returns c _ k d low = c.loop-row.invariant k d (omega (arith, low, c.loop-row-test.false))
