use Rattle.std.proofs.Common.{sym, ap, ◌∙◌}
use Rattle.hz_description_model.specs.Check.Sites.{is_among}
use Rattle.hz_check.proofs.Tables.TableSteps.{values_put, values_kept}
use Rattle.hz_check.proofs.names.tables.values_of.Goals as goal
use Rattle.hz_check.proofs.names.tables.values_of.Goals.{then-not-holds+in_ok-values+in_ok-put, else-not-holds}

pub loop-item-preserved : goal.loop-item-preserved
loop-item-preserved c = λ q.
    elim c.if-not-holds.branch [
      | then-not-holds+in_ok-values+in_ok-put w ↦ rw w.table-is (values_put c.args.items.now c.loop-item.item-index c.item-item.result c.item-item.is c.loop-item-test.true c.loop-item.table q w.put.new.self w.in_ok-values.values _ (sym w.if-not-holds.ensures) (λ name. w.in_ok-values.ensures name ∙ ap (is_among name) w.deref.ensures.value) (w.in_ok-put.ensures q) (c.loop-item.invariant q))
      | else-not-holds w ↦ rw w.table-is (values_kept c.args.items.now c.loop-item.item-index c.item-item.result c.item-item.is c.loop-item-test.true c.loop-item.table q _ (sym w.if-not-holds.ensures) (c.loop-item.invariant q))
    ]
