use Rattle.std.proofs.Common.{◌≡◌, drop, []}
use Rattle.hz_check.specs.Names.Held.{is_held}
use Rattle.hz_check_reservations.specs.Places.{reported}
use Rattle.hz_check.specs.Faults.Twice.{repeated_by, unseen}
use Rattle.hz_description_model.specs.Check.CheckFaults.{sites_of}
use Rattle.hz_description_model.specs.Check.Sites.{earlier, earliest, is_preceded}
use Rattle.hz_check.proofs.faults.twice_defined.second_value_of.Given as goal

abbrev pub invariant-loop-name : goal.invariant-loop-name
invariant-loop-name l =
    earlier (reported l.first) (earliest (repeated_by (is_preceded []) (is_held l.seen) (sites_of l.item.line l.item.form (drop l.name-index l.name-items))))
    ≡ earliest (repeated_by (is_preceded []) unseen (sites_of l.item.line l.item.form l.item.values.items))
