use Rattle.std.proofs.Common.{get_or, refl}
use Rattle.std.proofs.lemmas.Result.{err_from_is_err_and}
use Rattle.hz_altern.specs.Tables.{alternatives_in}
use Rattle.hz_check_reservations.specs.Shape.{reserving_of}
use Rattle.hz_check_reservations.specs.Tables.{HasAlternatives}
use Rattle.hz_check_reservations.proofs.CountingNames.{at_read, formed_there, held_there, fresh_there}
use Rattle.hz_check_reservations.proofs.Sizes.{none_expanded, all_expanded, few_there, short_there, refused_there, expanded_more}
use Rattle.hz_mdread.specs.Shape.{description}
use Rattle.hz_check_reservations.proofs.Places.{Contains-from_At}
use Rattle.hz_check_reservations.proofs.listing.expanding.expand_after.Goals as goal

pub reserving_at-requires : goal.reserving_at-requires
reserving_at-requires c =
    let order = c.args.order.now in
    c.requires.order.within (get_or order c.loop-i.i 0) (Contains-from_At order c.loop-i.i (get_or order c.loop-i.i 0) (at_read order c.loop-i.i c.loop-i-test.true))

pub loop-i-init : goal.loop-i-init
loop-i-init c =
    let d = description c.args.desc.now in
    none_expanded d c.requires.named c.requires.formed c.args.order.now c.requires.order (record { known = c.args.known; size = 0; lists = c.new.result }) c.requires.known refl c.new.ensures.items

pub add-requires-clause-new : goal.add-requires-clause-new
add-requires-clause-new c =
    let d = description c.args.desc.now in
    let order = c.args.order.now in
    let i = c.loop-i.i in
    fresh_there (HasAlternatives d) d c.requires.named c.requires.formed order c.requires.order i (get_or order i 0) (at_read order i c.loop-i-test.true) (reserving_of c.reserving_at.result) c.reserving_at.ensures
    (alternatives_in c.loop-i.expansion.known) c.loop-i.invariant.holds

pub add-requires-clause-formed : goal.add-requires-clause-formed
add-requires-clause-formed c =
    let d = description c.args.desc.now in
    let order = c.args.order.now in
    let i = c.loop-i.i in
    formed_there (HasAlternatives d) d c.requires.named c.requires.formed order c.requires.order i (get_or order i 0) (at_read order i c.loop-i-test.true) (reserving_of c.reserving_at.result) c.reserving_at.ensures

pub add-requires-clause-known : goal.add-requires-clause-known
add-requires-clause-known c =
    let d = description c.args.desc.now in
    let order = c.args.order.now in
    let i = c.loop-i.i in
    held_there (HasAlternatives d) d c.requires.named c.requires.formed order c.requires.order i (get_or order i 0) (at_read order i c.loop-i-test.true) (reserving_of c.reserving_at.result) c.reserving_at.ensures
    (alternatives_in c.loop-i.expansion.known) c.loop-i.invariant.holds

pub add-requires-clause-few : goal.add-requires-clause-few
add-requires-clause-few c =
    let d = description c.args.desc.now in
    let order = c.args.order.now in
    let i = c.loop-i.i in
    few_there d c.requires.named c.requires.formed order c.requires.order i (get_or order i 0) (at_read order i c.loop-i-test.true) (reserving_of c.reserving_at.result) c.reserving_at.ensures
    c.loop-i.expansion c.loop-i.invariant c.requires.extents

pub add-requires-clause-short : goal.add-requires-clause-short
add-requires-clause-short c =
    let d = description c.args.desc.now in
    let order = c.args.order.now in
    let i = c.loop-i.i in
    short_there d c.requires.named c.requires.formed order c.requires.order i (get_or order i 0) (at_read order i c.loop-i-test.true) (reserving_of c.reserving_at.result) c.reserving_at.ensures
    c.loop-i.expansion c.loop-i.invariant c.requires.extents

pub returns-in_err-add-clause-err : goal.returns-in_err-add-clause-err
returns-in_err-add-clause-err c =
    let d = description c.args.desc.now in
    let order = c.args.order.now in
    let i = c.loop-i.i in
    let p = err_from_is_err_and c.from_residual.result c.from_residual.ensures.1 in
    rw (p.1, p.2) (refused_there d c.requires.named c.requires.formed order c.requires.order i (get_or order i 0) (at_read order i c.loop-i-test.true) (reserving_of c.reserving_at.result) c.reserving_at.ensures
    c.loop-i.expansion c.loop-i.invariant _ c.in_err-add.ensures.err)

pub loop-i-preserved : goal.loop-i-preserved
loop-i-preserved c =
    let d = description c.args.desc.now in
    let order = c.args.order.now in
    let i = c.loop-i.i in
    expanded_more d c.requires.named c.requires.formed order c.requires.order i (get_or order i 0) (at_read order i c.loop-i-test.true) (reserving_of c.reserving_at.result) c.reserving_at.ensures
    c.loop-i.expansion c.loop-i.invariant c.add.new.self c.in_ok-add.ensures.ok

pub returns-clause-ok : goal.returns-clause-ok
returns-clause-ok c =
    let d = description c.args.desc.now in
    all_expanded d c.requires.named c.requires.formed c.args.order.now c.requires.order c.loop-i.i c.loop-i.expansion c.loop-i-test.false c.loop-i.invariant
