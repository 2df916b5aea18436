use Rattle.std.proofs.Common.{◌≡◌, drop}
use Rattle.std.specs.List.{flat_map}
use Rattle.hz_mdread.specs.Shape.{attribute_item}
use Rattle.hz_check_reservations.specs.Places.{reported}
use Rattle.hz_description_model.specs.Check.CheckFaults.{repeated_values}
use Rattle.hz_description_model.specs.Check.Sites.{earlier, earliest}
use Rattle.hz_check.proofs.faults.twice_defined.second_value.Given as goal

abbrev pub invariant-loop-item : goal.invariant-loop-item
invariant-loop-item l =
    earlier (reported l.first) (earliest (flat_map (λ a. repeated_values (attribute_item a)) (drop l.item-index l.items)))
    ≡ earliest (flat_map (λ a. repeated_values (attribute_item a)) l.items)
