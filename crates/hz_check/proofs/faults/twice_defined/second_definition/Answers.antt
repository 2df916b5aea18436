use Rattle.std.proofs.Common.{◌≡◌, List, [], map, sym, ap, ◌∙◌}
use Rattle.std.specs.List.{flat_map}
use Rattle.hz_mdread.specs.Shape.{description, automaton_item, unit_item, reservation_item, class_item, attribute_item}
use Rattle.hz_check_reservations.specs.Places.{reported}
use Rattle.hz_check.specs.Faults.Twice.{is_given}
use Rattle.hz_description_model.specs.Check.CheckFaults.{unit_sites, reservation_sites, repeated_values}
use Rattle.hz_description_model.specs.Check.CountingOrder.{reservation_site}
use Rattle.hz_description_model.specs.Check.Sites.{Site, earliest, is_preceded}
use Rattle.hz_check.proofs.Lists.Earliest.{IsOf, joined}
use Rattle.hz_check.proofs.Lists.Next.{map-map, flat_map-map}
use Rattle.hz_check.proofs.Telling.Repeated.{reported_twice, none_given}
use Rattle.hz_check.proofs.faults.twice_defined.second_definition.Goals as goal

-- sites of what is stored, as those of the definition
from_stored : {A B : Type 0} (site : B → Site) (item : A → B) (slice xs : List A) → slice ≡ xs → map (λ x. site (item x)) slice ≡ map site (map item xs)
from_stored site item slice xs is = ap (map (λ x. site (item x))) is ∙ sym (map-map site item xs)

pub returns : goal.returns
returns c =
    let stored = c.args.desc.now in
    let d = description stored in
    let none = none_given c.new-none.result c.new-none.ensures in
    let automaton = reported_twice (λ i. record { line = i.line; form = i.form; name = i.name }) automaton_item (is_given c.new-none.result) [] _ stored.automata.items (reported c.in_ok-automaton.automaton) none c.deref-3.ensures.value c.in_ok-automaton.ensures in
    let unit = reported_twice (λ i. record { line = i.line; form = i.form; name = i.name }) unit_item (is_given c.in_ok-reservations.reservations) (reservation_sites d) _ stored.units.items (reported c.in_ok-unit.unit)
    (λ s. c.in_ok-reservations.ensures s ∙ ap (λ sites. is_preceded sites s) (from_stored reservation_site reservation_item _ stored.reservations.items c.deref-2.ensures.value)) c.deref-4.ensures.value c.in_ok-unit.ensures in
    let reservation = reported_twice reservation_site reservation_item (is_given c.in_ok-units.units) (unit_sites d) _ stored.reservations.items (reported c.in_ok-reservation.reservation)
    (λ s. c.in_ok-units.ensures s ∙ ap (λ sites. is_preceded sites s) (from_stored (λ i. record { line = i.line; form = i.form; name = i.name }) unit_item _ stored.units.items c.deref.ensures.value)) c.deref-5.ensures.value c.in_ok-reservation.ensures in
    let class = reported_twice (λ i. record { line = i.line; form = i.form; name = i.name }) class_item (is_given c.new-none.result) [] _ stored.classes.items (reported c.in_ok-class.class) none c.deref-6.ensures.value c.in_ok-class.ensures in
    let attribute = reported_twice (λ i. record { line = i.line; form = i.form; name = i.name }) attribute_item (is_given c.new-none.result) [] _ stored.attributes.items (reported c.in_ok-attribute.attribute) none c.deref-7.ensures.value c.in_ok-attribute.ensures in
    let value : IsOf (reported c.in_ok-value.value) (flat_map repeated_values d.attributes) =
    record { is = c.in_ok-value.ensures ∙ (ap (λ items. earliest (flat_map (λ a. repeated_values (attribute_item a)) items)) c.deref-8.ensures.value ∙ ap earliest (sym (flat_map-map repeated_values attribute_item stored.attributes.items))) } in
    let all = joined c.earlier-4.ensures (joined c.earlier-3.ensures (joined c.earlier-2.ensures (joined c.earlier-first.ensures (joined c.earlier.ensures automaton unit) reservation) class) attribute) value in
    all.is
