use Rattle.std.proofs.Common.{◌≡◌, ◌<◌, [], ◌∷◌, length, get_or, refl, sym, ap, ◌∙◌, arith, slice_get}
use Rattle.std.proofs.lemmas.List.{length-map, get_or_default}
use Rattle.hz_check_reservations.specs.declared.listing.unit_place.UnitPlace.{UnitPlace}
use Rattle.hz_altern.specs.Tables.{alternatives_in}
use Rattle.hz_check_reservations.specs.Shape.{place_of}
use Rattle.hz_check_reservations.specs.Tables.{HasAlternatives}
use Rattle.hz_check_reservations.proofs.CountingNames.{stored_at, unit_fresh, unit_more, units_all}
use Rattle.hz_check_reservations.proofs.Names.{unit_list, unit_places-length}
use Rattle.hz_mdread.specs.Shape.{description, unit_item}
use Rattle.hz_description_model.specs.Reservations.Alternatives.{taking}
use Rattle.hz_check_reservations.proofs.listing.expanding.known_units.Goals as goal

pub index-requires : goal.index-requires
index-requires c =
    let d = description c.args.desc.now in
    let places = length-map c.args.places.now place_of in
    let units = length-map c.args.desc.now.units.items unit_item in
    let same = unit_places-length d in
    let held : c.args.desc.now.units.len ≡ length c.args.desc.now.units.items = c.args.desc.now.units.ok.0 in
    omega (arith, ap length c.requires.places, c.loop-i-test.true)

pub add_unit-requires-clause-new : goal.add_unit-requires-clause-new
add_unit-requires-clause-new c =
    let d = description c.args.desc.now in
    let u = unit_item c.index.result.now in
    let items = c.args.desc.now.units.items in
    let places = length-map c.args.places.now place_of in
    let units = length-map items unit_item in
    let same = unit_places-length d in
    let low : c.loop-i.i < length items = omega (arith, ap length c.requires.places, c.loop-i-test.true) in
    let there = stored_at unit_item items items c.loop-i.i c.index.result.now refl low c.index.ensures in
    unit_fresh (HasAlternatives d) d c.requires.named c.requires.formed c.loop-i.i u (alternatives_in c.loop-i.known) there c.loop-i.invariant

pub loop-i-preserved : goal.loop-i-preserved
loop-i-preserved c =
    let d = description c.args.desc.now in
    let u = unit_item c.index.result.now in
    let items = c.args.desc.now.units.items in
    let places = length-map c.args.places.now place_of in
    let units = length-map items unit_item in
    let same = unit_places-length d in
    let low : c.loop-i.i < length items = omega (arith, ap length c.requires.places, c.loop-i-test.true) in
    let there = stored_at unit_item items items c.loop-i.i c.index.result.now refl low c.index.ensures in
    let none : UnitPlace = record { automaton = 0; unit = 0 } in
    let placed = ap (λ ps. slice_get ps c.loop-i.i) (sym c.requires.places) ∙ stored_at place_of c.args.places.now c.args.places.now c.loop-i.i (get_or c.args.places.now c.loop-i.i none) refl c.loop-i-test.true (get_or_default c.args.places.now c.loop-i.i none (get_or c.args.places.now c.loop-i.i none) c.loop-i-test.true) in
    unit_more (HasAlternatives d) d c.requires.named c.requires.formed c.loop-i.i u (taking _ ∷ []) (alternatives_in c.loop-i.known) (alternatives_in c.add_unit.new.self) there c.in_ok-add_unit.ensures.added
    (unit_list d c.requires.named c.requires.formed c.loop-i.i u _ there placed) c.loop-i.invariant

pub returns : goal.returns
returns c =
    let d = description c.args.desc.now in
    let places = length-map c.args.places.now place_of in
    let same = unit_places-length d in
    units_all (HasAlternatives d) d c.requires.named c.requires.formed c.loop-i.i (alternatives_in c.loop-i.known) (omega (arith, ap length c.requires.places, c.loop-i-test.false)) c.loop-i.invariant
