use Rattle.std.proofs.Common.{filter, map, codes, sym, ap, ◌∙◌}
use Rattle.std.specs.Str.{bytes_eq}
use Rattle.hz_mdread.specs.Shape.{unit_item, reservation_item}
use Rattle.hz_check.proofs.Lists.Earliest.{IsOf, joined}
use Rattle.hz_check.proofs.Lists.Next.{map-map}
use Rattle.hz_description_model.specs.Check.CountingOrder.{reservation_site}
use Rattle.hz_description_model.specs.Check.Sites.{earliest}
use Rattle.hz_check.proofs.faults.reserved_name.reserved_name.Goals as goal

pub returns : goal.returns
returns c =
    let stored = c.args.desc.now in
    let unit : IsOf _ (filter (λ s. bytes_eq s.name (codes "nothing")) (map (λ u. record { line = u.line; form = u.form; name = u.name }) (map unit_item stored.units.items))) = record {
      is = c.reserved_site.ensures
          ∙ ap (λ sites. earliest (filter (λ s. bytes_eq s.name (codes "nothing")) sites))
          (ap (map (λ i. record { line = i.line; form = i.form; name = i.name })) c.deref.ensures.value ∙ sym (map-map (λ u. record { line = u.line; form = u.form; name = u.name }) unit_item stored.units.items));
    } in
    let reservation : IsOf _ (filter (λ s. bytes_eq s.name (codes "nothing")) (map reservation_site (map reservation_item stored.reservations.items))) = record {
      is = c.reserved_site-2.ensures
          ∙ ap (λ sites. earliest (filter (λ s. bytes_eq s.name (codes "nothing")) sites))
          (ap (map (λ i. record { line = i.line; form = i.form; name = i.name })) c.deref-2.ensures.value ∙ sym (map-map reservation_site reservation_item stored.reservations.items));
    } in
    (joined c.earlier.ensures unit reservation).is
