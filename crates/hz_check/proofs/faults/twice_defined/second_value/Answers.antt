use Rattle.hz_mdread.specs.Shape.{attribute_item}
use Rattle.hz_check_reservations.specs.Places.{reported}
use Rattle.hz_description_model.specs.Check.CheckFaults.{repeated_values}
use Rattle.hz_check.proofs.Lists.Earliest.{found_next}
use Rattle.hz_check.proofs.faults.twice_defined.second_value.Goals as goal

pub loop-item-preserved : goal.loop-item-preserved
loop-item-preserved c =
    found_next (λ a. repeated_values (attribute_item a)) (reported c.loop-item.first) _ (reported c.earlier-first.result) _ c.args.items.now c.loop-item.item-index c.item-item.result
    c.item-item.is c.loop-item-test.true c.in_ok-second_value_of.ensures c.earlier-first.ensures c.loop-item.invariant
