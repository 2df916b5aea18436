use Rattle.std.proofs.Common.{◌≡◌, drop}
use Rattle.std.specs.List.{flat_map}
use Rattle.hz_mdread.specs.Shape.{description}
use Rattle.hz_check_reservations.specs.Places.{reported}
use Rattle.hz_description_model.specs.Check.Sites.{earlier, earliest}
use Rattle.hz_check.proofs.faults.unknown_name.unknown_site.Given as goal

abbrev pub invariant-loop-item : goal.invariant-loop-item
invariant-loop-item g l =
    earlier (reported l.first) (earliest (flat_map (g.T.Refers.unknown (description l.names.desc.now)) (drop l.item-index l.items)))
    ≡ earliest (flat_map (g.T.Refers.unknown (description l.names.desc.now)) l.items)
