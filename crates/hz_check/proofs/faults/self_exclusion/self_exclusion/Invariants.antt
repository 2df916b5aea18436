use Rattle.std.proofs.Common.{◌≡◌, drop}
use Rattle.std.specs.List.{flat_map}
use Rattle.hz_mdread.specs.Shape.{set_item}
use Rattle.hz_check_reservations.specs.Places.{reported}
use Rattle.hz_description_model.specs.Check.CheckFaults.{self_excluded}
use Rattle.hz_description_model.specs.Check.Sites.{earlier, earliest}
use Rattle.hz_check.proofs.faults.self_exclusion.self_exclusion.Given as goal

abbrev pub invariant-loop-set : goal.invariant-loop-set
invariant-loop-set l =
    earlier (reported l.first) (earliest (flat_map (λ s. self_excluded (set_item s)) (drop l.set-index l.set-items)))
    ≡ earliest (flat_map (λ s. self_excluded (set_item s)) l.set-items)
