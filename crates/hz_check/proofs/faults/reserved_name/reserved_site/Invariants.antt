use Rattle.std.proofs.Common.{◌≡◌, map, filter, codes, drop}
use Rattle.std.specs.Str.{bytes_eq}
use Rattle.hz_check_reservations.specs.Places.{reported}
use Rattle.hz_description_model.specs.Check.Sites.{earlier, earliest}
use Rattle.hz_check.proofs.faults.reserved_name.reserved_site.Given as goal

abbrev pub invariant-loop-item : goal.invariant-loop-item
invariant-loop-item g l =
    earlier (reported l.first) (earliest (filter (λ s. bytes_eq s.name (codes "nothing")) (map g.T.Defines.site (drop l.item-index l.items))))
    ≡ earliest (filter (λ s. bytes_eq s.name (codes "nothing")) (map g.T.Defines.site l.items))
