use Rattle.std.proofs.Common.{sym}
use Rattle.hz_check_reservations.specs.Places.{site_of}
use Rattle.hz_check.proofs.Telling.Repeated.{given_put, given_kept}
use Rattle.hz_check.proofs.faults.twice_defined.forms_of.Goals as goal
use Rattle.hz_check.proofs.faults.twice_defined.forms_of.Goals.{then-not-is_given+in_ok-put, else-not-is_given}

pub loop-item-preserved : goal.loop-item-preserved
loop-item-preserved g c = λ s.
    let items = c.args.items.now in
    let i = c.loop-item.item-index in
    let t = site_of c.site-site.result in
    elim c.if-not-is_given.branch [
      | then-not-is_given+in_ok-put w ↦ rw w.forms-is (given_put g.T.Defines.site items i c.item-item.result c.item-item.is c.loop-item-test.true c.loop-item.forms t c.site-site.ensures s w.put.new.self _ (sym w.if-not-is_given.ensures) w.in_ok-put.ensures (c.loop-item.invariant s))
      | else-not-is_given w ↦ rw w.forms-is (given_kept g.T.Defines.site items i c.item-item.result c.item-item.is c.loop-item-test.true c.loop-item.forms t c.site-site.ensures s _ (sym w.if-not-is_given.ensures) (c.loop-item.invariant s))
    ]
