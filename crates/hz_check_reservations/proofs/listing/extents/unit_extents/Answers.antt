use Rattle.std.proofs.Common.{length, refl, ap, arith}
use Rattle.std.proofs.lemmas.List.{length-map}
use Rattle.hz_altern.specs.Tables.{extent_in}
use Rattle.hz_check_reservations.specs.Tables.{HasExtent}
use Rattle.hz_check_reservations.proofs.CountingNames.{stored_at, unit_fresh, unit_more, units_all}
use Rattle.hz_check_reservations.proofs.Holding.{holds_none}
use Rattle.hz_check_reservations.proofs.Names.{unit_extent}
use Rattle.hz_mdread.specs.Shape.{description, unit_item}
use Rattle.hz_check_reservations.proofs.listing.extents.unit_extents.Goals as goal

pub add-requires : goal.add-requires
add-requires c =
    let d = description c.args.desc.now in
    let i = c.loop-unit.unit-index in
    let there = stored_at unit_item c.as_slice-unit-items.result.now c.args.desc.now.units.items i c.unit-item.result c.as_slice-unit-items.ensures.value c.loop-unit-test.true c.unit-item.is in
    unit_fresh (HasExtent d) d c.requires.named c.requires.formed i (unit_item c.unit-item.result) (extent_in c.loop-unit.extents) there c.loop-unit.invariant

pub loop-unit-init : goal.loop-unit-init
loop-unit-init c = holds_none (HasExtent (description c.args.desc.now)) (extent_in c.new-extents.result) c.new-extents.ensures

pub loop-unit-preserved : goal.loop-unit-preserved
loop-unit-preserved c =
    let d = description c.args.desc.now in
    let i = c.loop-unit.unit-index in
    let u = unit_item c.unit-item.result in
    let there = stored_at unit_item c.as_slice-unit-items.result.now c.args.desc.now.units.items i c.unit-item.result c.as_slice-unit-items.ensures.value c.loop-unit-test.true c.unit-item.is in
    unit_more (HasExtent d) d c.requires.named c.requires.formed i u (record { count = 1; longest = 1 }) (extent_in c.loop-unit.extents) (extent_in c.add.new.self) there c.in_ok-add.ensures.added
    (unit_extent d c.requires.named c.requires.formed i u (record { count = 1; longest = 1 }) there refl) c.loop-unit.invariant

pub returns : goal.returns
returns c =
    let d = description c.args.desc.now in
    let long = length-map c.args.desc.now.units.items unit_item in
    units_all (HasExtent d) d c.requires.named c.requires.formed c.loop-unit.unit-index (extent_in c.loop-unit.extents) (omega (arith, ap length c.as_slice-unit-items.ensures.value, c.loop-unit-test.false)) c.loop-unit.invariant
