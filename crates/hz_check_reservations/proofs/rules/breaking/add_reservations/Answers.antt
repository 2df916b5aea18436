use Rattle.std.proofs.Common.{◌≤◌, length, get_or, refl, arith}
use Rattle.std.proofs.lemmas.List.{length-map}
use Rattle.hz_description_model.specs.Check.CountingOrder.{reserving_reservation}
use Rattle.hz_check_reservations.proofs.CountingNames.{at_read, stored_at, formed_there, held_there, fresh_there, reservation_more, class_more}
use Rattle.hz_mdread.specs.Shape.{description, reservation_item}
use Rattle.hz_check_reservations.specs.HabitTables.{HasHabits, habits_in}
use Rattle.hz_check_reservations.proofs.NameHabits.{class_there, reservation_is, reservation_habits}
use Rattle.hz_check_reservations.specs.Orders.{reserving}
use Rattle.hz_check_reservations.proofs.rules.breaking.add_reservations.Goals as goal

pub loop-i-preserved-then-number-len : goal.loop-i-preserved-then-number-len
loop-i-preserved-then-number-len c =
    let d = description c.args.desc.now in
    let order = c.args.order.now in
    let i = c.loop-i.i in
    let number = get_or order i 0 in
    let at = at_read order i c.loop-i-test.true in
    let long = length-map c.args.desc.now.reservations.items reservation_item in
    let past : length d.reservations ≤ number = omega (arith, c.len.ensures, c.if-number-len.true) in
    class_more (HasHabits d) d c.requires.named c.requires.formed order c.requires.order i number at (reserving d number) refl
    (habits_in c.loop-i.table) (class_there d c.requires.named c.requires.formed order c.requires.order i number at past) c.loop-i.invariant

pub habits_of-requires-clause-formed : goal.habits_of-requires-clause-formed
habits_of-requires-clause-formed c =
    let d = description c.args.desc.now in
    let order = c.args.order.now in
    let i = c.loop-i.i in
    let number = get_or order i 0 in
    let at = at_read order i c.loop-i-test.true in
    let items = c.args.desc.now.reservations.items in
    let item = reservation_item c.index-item.result.now in
    let there = stored_at reservation_item items items number c.index-item.result.now refl (omega (arith, c.len.ensures, c.if-number-len.false)) c.index-item.ensures in
    formed_there (HasHabits d) d c.requires.named c.requires.formed order c.requires.order i number at (reserving_reservation item)
    (reservation_is d c.requires.named c.requires.formed order c.requires.order i number at item there)

pub habits_of-requires-clause-held : goal.habits_of-requires-clause-held
habits_of-requires-clause-held c =
    let d = description c.args.desc.now in
    let order = c.args.order.now in
    let i = c.loop-i.i in
    let number = get_or order i 0 in
    let at = at_read order i c.loop-i-test.true in
    let items = c.args.desc.now.reservations.items in
    let item = reservation_item c.index-item.result.now in
    let there = stored_at reservation_item items items number c.index-item.result.now refl (omega (arith, c.len.ensures, c.if-number-len.false)) c.index-item.ensures in
    held_there (HasHabits d) d c.requires.named c.requires.formed order c.requires.order i number at (reserving_reservation item)
    (reservation_is d c.requires.named c.requires.formed order c.requires.order i number at item there) (habits_in c.loop-i.table) c.loop-i.invariant

pub add-requires : goal.add-requires
add-requires c =
    let d = description c.args.desc.now in
    let order = c.args.order.now in
    let i = c.loop-i.i in
    let number = get_or order i 0 in
    let at = at_read order i c.loop-i-test.true in
    let items = c.args.desc.now.reservations.items in
    let item = reservation_item c.index-item.result.now in
    let there = stored_at reservation_item items items number c.index-item.result.now refl (omega (arith, c.len.ensures, c.if-number-len.false)) c.index-item.ensures in
    fresh_there (HasHabits d) d c.requires.named c.requires.formed order c.requires.order i number at (reserving_reservation item)
    (reservation_is d c.requires.named c.requires.formed order c.requires.order i number at item there) (habits_in c.loop-i.table) c.loop-i.invariant refl

pub loop-i-preserved : goal.loop-i-preserved
loop-i-preserved c =
    let d = description c.args.desc.now in
    let order = c.args.order.now in
    let i = c.loop-i.i in
    let number = get_or order i 0 in
    let at = at_read order i c.loop-i-test.true in
    let items = c.args.desc.now.reservations.items in
    let item = reservation_item c.index-item.result.now in
    let there = stored_at reservation_item items items number c.index-item.result.now refl (omega (arith, c.len.ensures, c.if-number-len.false)) c.index-item.ensures in
    reservation_more (HasHabits d) d c.requires.named c.requires.formed order c.requires.order i number at (reserving_reservation item)
    (reservation_is d c.requires.named c.requires.formed order c.requires.order i number at item there)
    c.habits_of.result (habits_in c.loop-i.table) (habits_in c.add.new.self) refl c.in_ok-add.ensures
    (reservation_habits d c.requires.named c.requires.formed order c.requires.order i number at item there (habits_in c.loop-i.table) c.habits_of.result c.loop-i.invariant c.habits_of.ensures)
    c.loop-i.invariant
