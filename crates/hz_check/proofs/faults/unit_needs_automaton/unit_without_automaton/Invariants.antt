use Rattle.std.proofs.Common.{◌≡◌, drop}
use Rattle.std.specs.List.{filter_map}
use Rattle.hz_mdread.specs.Shape.{unit_item}
use Rattle.hz_check_reservations.specs.Places.{reported}
use Rattle.hz_description_model.specs.Check.CheckFaults.{homeless}
use Rattle.hz_description_model.specs.Check.Sites.{earlier, earliest}
use Rattle.hz_check.proofs.faults.unit_needs_automaton.unit_without_automaton.Given as goal

abbrev pub invariant-loop-unit : goal.invariant-loop-unit
invariant-loop-unit l =
    earlier (reported l.first) (earliest (filter_map (λ u. homeless (unit_item u)) (drop l.unit-index l.unit-items)))
    ≡ earliest (filter_map (λ u. homeless (unit_item u)) l.unit-items)
