use Rattle.std.proofs.Common.{◌≡◌, map, drop}
use Rattle.hz_check.specs.Names.Held.{is_held}
use Rattle.hz_check_reservations.specs.Places.{reported}
use Rattle.hz_check.specs.Faults.Twice.{is_given, repeated_by, unseen}
use Rattle.hz_description_model.specs.Check.Sites.{earlier, earliest}
use Rattle.hz_check.proofs.faults.twice_defined.second_site.Given as goal

abbrev pub invariant-loop-item : goal.invariant-loop-item
invariant-loop-item g l =
    earlier (reported l.first) (earliest (repeated_by (is_given l.others) (is_held l.seen) (map g.T.Defines.site (drop l.item-index l.items))))
    ≡ earliest (repeated_by (is_given l.others) unseen (map g.T.Defines.site l.items))
