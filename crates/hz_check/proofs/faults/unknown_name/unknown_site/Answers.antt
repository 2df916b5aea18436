use Rattle.hz_mdread.specs.Shape.{description}
use Rattle.hz_check_reservations.specs.Places.{reported}
use Rattle.hz_check.proofs.Lists.Earliest.{found_next}
use Rattle.hz_check.proofs.faults.unknown_name.unknown_site.Goals as goal

pub loop-item-preserved : goal.loop-item-preserved
loop-item-preserved g c =
    found_next (g.T.Refers.unknown (description c.args.names.now.desc.now)) (reported c.loop-item.first) _ (reported c.earlier-first.result) _ c.args.items.now c.loop-item.item-index c.item-item.result
    c.item-item.is c.loop-item-test.true c.unknown.ensures c.earlier-first.ensures c.loop-item.invariant
