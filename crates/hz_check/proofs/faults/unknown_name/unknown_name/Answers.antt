use Rattle.std.proofs.Common.{◌++◌, ◌∷◌, [], filter, not}
use Rattle.hz_mdread.specs.Shape.{description, reservation_item, class_item, bypass_item, set_item, attribute_item}
use Rattle.hz_check.proofs.Lists.Earliest.{joined, reported_of_items}
use Rattle.hz_description_model.specs.Check.CheckFaults.{sites_of, unknown_in_expression, unknown_in_condition, is_class, is_unit, names_of_bypass, names_of_set}
use Rattle.hz_description_model.specs.Check.Sites.{is_among}
use Rattle.hz_check.proofs.faults.unknown_name.unknown_name.Goals as goal

pub returns : goal.returns
returns c =
    let stored = c.args.names.now.desc.now in
    let d = description stored in
    let reservation = reported_of_items (λ r. sites_of r.line r.form (unknown_in_expression d r.expression)) reservation_item _ stored.reservations.items _ c.deref.ensures.value c.unknown_site-reservation.ensures in
    let class = reported_of_items (λ k. sites_of k.line k.form (unknown_in_condition d k.condition ++ unknown_in_expression d k.expression)) class_item _ stored.classes.items _ c.deref-2.ensures.value c.unknown_site-class.ensures in
    let bypass = reported_of_items (λ b. sites_of b.line b.form (filter (λ name. not (is_class d name)) (names_of_bypass b))) bypass_item _ stored.bypasses.items _ c.deref-3.ensures.value c.unknown_site-bypass.ensures in
    let set = reported_of_items (λ s. sites_of s.line s.form (filter (λ name. not (is_unit d name)) (names_of_set s))) set_item _ stored.sets.items _ c.deref-4.ensures.value c.unknown_site-set.ensures in
    let attribute = reported_of_items (λ a. sites_of a.line a.form (filter (λ name. not (is_among name a.values)) (a.fallback ∷ []))) attribute_item _ stored.attributes.items _ c.deref-5.ensures.value c.unknown_site-attribute.ensures in
    let all = joined c.earlier-4.ensures (joined c.earlier-3.ensures (joined c.earlier-2.ensures (joined c.earlier.ensures reservation class) bypass) set) attribute in
    all.is
