use Rattle.std.proofs.Common.{◌-◌, ◌<◌, ◌≤◌, length, map, arith}
use Rattle.std.proofs.lemmas.List.{length-map}
use Rattle.hz_altern.specs.Extents.{reported}
use Rattle.hz_altern.specs.Tables.{extent_in}
use Rattle.hz_check_reservations.specs.Shape.{reserving_of}
use Rattle.hz_check_reservations.proofs.Pasts.{tells_more, mapped_at, mapped_in}
use Rattle.hz_check_reservations.proofs.listing.extents.past_among.Goals as goal

pub extent-requires-clause-formed : goal.extent-requires-clause-formed
extent-requires-clause-formed g c =
    let q = reserving_of c.reserving-reserving.result in
    let low : c.loop-i.i - 1 < length c.args.items.now = omega (arith, c.loop-i-test.true, c.loop-i.auto.i) in
    c.requires.formed q (mapped_in g.T.Reserves.reserves c.args.items.now (c.loop-i.i - 1) c.index-items-i.result q low c.index-items-i.is c.reserving-reserving.ensures)

pub extent-requires-clause-held : goal.extent-requires-clause-held
extent-requires-clause-held g c =
    let q = reserving_of c.reserving-reserving.result in
    let low : c.loop-i.i - 1 < length c.args.items.now = omega (arith, c.loop-i-test.true, c.loop-i.auto.i) in
    c.requires.held q (mapped_in g.T.Reserves.reserves c.args.items.now (c.loop-i.i - 1) c.index-items-i.result q low c.index-items-i.is c.reserving-reserving.ensures)

pub loop-i-preserved : goal.loop-i-preserved
loop-i-preserved g c =
    let items = map g.T.Reserves.reserves c.args.items.now in
    let q = reserving_of c.reserving-reserving.result in
    let long = length-map c.args.items.now g.T.Reserves.reserves in
    let some : 0 < c.loop-i.i = omega (arith, c.loop-i-test.true) in
    let within : c.loop-i.i ≤ length items = omega (arith, c.loop-i.auto.i) in
    let low : c.loop-i.i - 1 < length c.args.items.now = omega (arith, c.loop-i-test.true, c.loop-i.auto.i) in
    tells_more (extent_in c.args.extents.now) items c.args.beyond c.loop-i.i q (reported c.extent.result) c.loop-i.past c.past_before-past.result some within
    (mapped_at g.T.Reserves.reserves c.args.items.now (c.loop-i.i - 1) c.index-items-i.result q low c.index-items-i.is c.reserving-reserving.ensures)
    c.extent.ensures c.past_before-past.ensures.alternatives c.past_before-past.ensures.cycles c.loop-i.invariant
