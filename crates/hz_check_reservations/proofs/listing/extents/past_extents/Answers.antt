use Rattle.std.proofs.Common.{List, None, refl, sym, subst}
use Rattle.hz_check_reservations.specs.declared.listing.extents.PastExtents.{PastExtents}
use Rattle.hz_altern.specs.Tables.{extent_in}
use Rattle.hz_check_reservations.specs.Past.{AreCountable, TellsAfter}
use Rattle.hz_check_reservations.proofs.Pasts.{countable, of_classes, of_reservations, past_all, same_items}
use Rattle.hz_mdread.specs.Shape.{description, class_item, reservation_item}
use Rattle.hz_description_model.specs.Check.CountingOrder.{Reserving, reserving_class, reserving_reservation, reservations_of, classes_of}
use Rattle.hz_check_reservations.proofs.listing.extents.past_extents.Goals as goal

pub past_among-classes-requires : goal.past_among-classes-requires
past_among-classes-requires c =
    let d = description c.args.desc.now in
    let table = extent_in c.add_reservations.new.extents in
    subst (AreCountable table) (same_items reserving_class class_item c.deref.result.now c.args.desc.now.classes.items c.deref.ensures.value)
    (countable d c.requires.named c.requires.formed c.args.order.now c.requires.order table c.in_ok-add_reservations.ensures (classes_of d)
    (of_classes d c.requires.named c.requires.formed c.args.order.now c.requires.order table c.in_ok-add_reservations.ensures))

pub past_among-requires : goal.past_among-requires
past_among-requires c =
    let d = description c.args.desc.now in
    let table = extent_in c.add_reservations.new.extents in
    subst (AreCountable table) (same_items reserving_reservation reservation_item c.deref-2.result.now c.args.desc.now.reservations.items c.deref-2.ensures.value)
    (countable d c.requires.named c.requires.formed c.args.order.now c.requires.order table c.in_ok-add_reservations.ensures (reservations_of d)
    (of_reservations d c.requires.named c.requires.formed c.args.order.now c.requires.order table c.in_ok-add_reservations.ensures))

pub returns : goal.returns
returns c =
    let d = description c.args.desc.now in
    let table = extent_in c.add_reservations.new.extents in
    let none : PastExtents = record { alternatives = None; cycles = None } in
    past_all d c.requires.named c.requires.formed c.args.order.now c.requires.order table c.in_ok-add_reservations.ensures none c.past_among-classes.result c.past_among.result refl refl
    (subst (λ (items : List Reserving). TellsAfter table items none c.past_among-classes.result) (sym (same_items reserving_class class_item c.deref.result.now c.args.desc.now.classes.items c.deref.ensures.value)) c.past_among-classes.ensures)
    (subst (λ (items : List Reserving). TellsAfter table items c.past_among-classes.result c.past_among.result) (sym (same_items reserving_reservation reservation_item c.deref-2.result.now c.args.desc.now.reservations.items c.deref-2.ensures.value)) c.past_among.ensures)
