use Rattle.std.proofs.Common.{get_or}
use Rattle.hz_altern.specs.Extents.{reported}
use Rattle.hz_altern.specs.Tables.{extent_in}
use Rattle.hz_check_reservations.specs.Shape.{reserving_of}
use Rattle.hz_check_reservations.specs.Tables.{HasExtent}
use Rattle.hz_check_reservations.proofs.CountingNames.{at_read, none_after, all_after, formed_there, held_there, fresh_there, reservation_more, class_more, extent_there}
use Rattle.hz_mdread.specs.Shape.{description}
use Rattle.hz_check_reservations.proofs.Places.{Contains-from_At}
use Rattle.hz_check_reservations.proofs.listing.extents.add_reservations.Goals as goal

pub reserving_at-reserving-requires : goal.reserving_at-reserving-requires
reserving_at-reserving-requires c =
    let order = c.args.order.now in
    c.requires.order.within (get_or order c.loop-i.i 0) (Contains-from_At order c.loop-i.i (get_or order c.loop-i.i 0) (at_read order c.loop-i.i c.loop-i-test.true))

pub loop-i-init : goal.loop-i-init
loop-i-init c =
    let d = description c.args.desc.now in
    none_after (HasExtent d) d c.requires.named c.requires.formed c.args.order.now c.requires.order (extent_in c.args.extents.now) c.requires.units

pub loop-i-preserved-then-reserving : goal.loop-i-preserved-then-reserving
loop-i-preserved-then-reserving c =
    let d = description c.args.desc.now in
    let order = c.args.order.now in
    let i = c.loop-i.i in
    class_more (HasExtent d) d c.requires.named c.requires.formed order c.requires.order i (get_or order i 0) (at_read order i c.loop-i-test.true) (reserving_of c.reserving_at-reserving.result) c.reserving_at-reserving.ensures
    (extent_in c.loop-i.extents) c.if-reserving.true c.loop-i.invariant

pub extent-requires-clause-formed : goal.extent-requires-clause-formed
extent-requires-clause-formed c =
    let d = description c.args.desc.now in
    let order = c.args.order.now in
    let i = c.loop-i.i in
    formed_there (HasExtent d) d c.requires.named c.requires.formed order c.requires.order i (get_or order i 0) (at_read order i c.loop-i-test.true) (reserving_of c.reserving_at-reserving.result) c.reserving_at-reserving.ensures

pub extent-requires-clause-held : goal.extent-requires-clause-held
extent-requires-clause-held c =
    let d = description c.args.desc.now in
    let order = c.args.order.now in
    let i = c.loop-i.i in
    held_there (HasExtent d) d c.requires.named c.requires.formed order c.requires.order i (get_or order i 0) (at_read order i c.loop-i-test.true) (reserving_of c.reserving_at-reserving.result) c.reserving_at-reserving.ensures
    (extent_in c.loop-i.extents) c.loop-i.invariant

pub add-requires : goal.add-requires
add-requires c =
    let d = description c.args.desc.now in
    let order = c.args.order.now in
    let i = c.loop-i.i in
    fresh_there (HasExtent d) d c.requires.named c.requires.formed order c.requires.order i (get_or order i 0) (at_read order i c.loop-i-test.true) (reserving_of c.reserving_at-reserving.result) c.reserving_at-reserving.ensures
    (extent_in c.loop-i.extents) c.loop-i.invariant c.if-reserving.false

pub loop-i-preserved : goal.loop-i-preserved
loop-i-preserved c =
    let d = description c.args.desc.now in
    let order = c.args.order.now in
    let i = c.loop-i.i in
    let number = get_or order i 0 in
    let at = at_read order i c.loop-i-test.true in
    let q = reserving_of c.reserving_at-reserving.result in
    let x = reported c.extent.result in
    reservation_more (HasExtent d) d c.requires.named c.requires.formed order c.requires.order i number at q c.reserving_at-reserving.ensures
    x (extent_in c.loop-i.extents) (extent_in c.add.new.self) c.if-reserving.false c.in_ok-add.ensures.added
    (extent_there d c.requires.named c.requires.formed order c.requires.order i number at q c.reserving_at-reserving.ensures (extent_in c.loop-i.extents) x c.loop-i.invariant c.if-reserving.false c.extent.ensures)
    c.loop-i.invariant

pub returns : goal.returns
returns c =
    let d = description c.args.desc.now in
    all_after (HasExtent d) d c.requires.named c.requires.formed c.args.order.now c.requires.order c.loop-i.i (extent_in c.loop-i.extents) c.loop-i-test.false c.loop-i.invariant
