use Rattle.hz_mdread.specs.Shape.{set_item}
use Rattle.hz_check_reservations.specs.Places.{reported}
use Rattle.hz_check.proofs.Lists.Earliest.{found_next, found_stored}
use Rattle.hz_description_model.specs.Check.CheckFaults.{self_excluded}
use Rattle.hz_check.proofs.faults.self_exclusion.self_exclusion.Goals as goal

pub loop-set-preserved : goal.loop-set-preserved
loop-set-preserved c =
    found_next (λ s. self_excluded (set_item s)) (reported c.loop-set.first) _ (reported c.earlier-first.result) _ c.deref-set-items.result.now c.loop-set.set-index c.set-item.result
    c.set-item.is c.loop-set-test.true c.in_ok-self_excluded.ensures c.earlier-first.ensures c.loop-set.invariant

pub returns : goal.returns
returns c = found_stored self_excluded set_item _ c.args.desc.now.sets.items _ _ c.deref-set-items.ensures.value c.loop-set-test.false c.loop-set.invariant
