use Rattle.std.proofs.Common.{◌≡◌, ◌<◌, length, get_or, refl, sym, ap, ◌∙◌, subst, arith, slice_get}
use Rattle.std.proofs.lemmas.List.{length-map, get_or_default}
use Rattle.hz_check_reservations.specs.declared.listing.unit_place.UnitPlace.{UnitPlace}
use Rattle.hz_check_reservations.specs.Shape.{place_of}
use Rattle.hz_check_reservations.proofs.CountingNames.{stored_at, unit_fresh, unit_more, units_all}
use Rattle.hz_check_reservations.proofs.Names.{unit_places-length}
use Rattle.hz_mdread.specs.Shape.{description, unit_item}
use Rattle.hz_check_reservations.specs.declared.rules.habits.Habits.{Habits}
use Rattle.hz_check_reservations.specs.HabitTables.{HasHabits, habits_in}
use Rattle.hz_check_reservations.proofs.NameHabits.{unit_habits}
use Rattle.hz_check_reservations.proofs.rules.breaking.unit_habits.Goals as goal

pub index-requires : goal.index-requires
index-requires c =
    let d = description c.args.desc.now in
    let places = length-map c.args.units.now place_of in
    let units = length-map c.args.desc.now.units.items unit_item in
    let same = unit_places-length d in
    let held : c.args.desc.now.units.len ≡ length c.args.desc.now.units.items = c.args.desc.now.units.ok.0 in
    omega (arith, ap length c.requires.places, c.loop-i-test.true)

pub add-requires : goal.add-requires
add-requires c =
    let d = description c.args.desc.now in
    let u = unit_item c.index.result.now in
    let items = c.args.desc.now.units.items in
    let places = length-map c.args.units.now place_of in
    let units = length-map items unit_item in
    let same = unit_places-length d in
    let low : c.loop-i.i < length items = omega (arith, ap length c.requires.places, c.loop-i-test.true) in
    let there = stored_at unit_item items items c.loop-i.i c.index.result.now refl low c.index.ensures in
    unit_fresh (HasHabits d) d c.requires.named c.requires.formed c.loop-i.i u (habits_in c.loop-i.table) there c.loop-i.invariant

pub loop-i-preserved : goal.loop-i-preserved
loop-i-preserved c =
    let d = description c.args.desc.now in
    let u = unit_item c.index.result.now in
    let items = c.args.desc.now.units.items in
    let places = length-map c.args.units.now place_of in
    let units = length-map items unit_item in
    let same = unit_places-length d in
    let low : c.loop-i.i < length items = omega (arith, ap length c.requires.places, c.loop-i-test.true) in
    let there = stored_at unit_item items items c.loop-i.i c.index.result.now refl low c.index.ensures in
    let none : UnitPlace = record { automaton = 0; unit = 0 } in
    let placed = ap (λ ps. slice_get ps c.loop-i.i) (sym c.requires.places) ∙ stored_at place_of c.args.units.now c.args.units.now c.loop-i.i (get_or c.args.units.now c.loop-i.i none) refl c.loop-i-test.true (get_or_default c.args.units.now c.loop-i.i none (get_or c.args.units.now c.loop-i.i none) c.loop-i-test.true) in
    unit_more (HasHabits d) d c.requires.named c.requires.formed c.loop-i.i u c.of_unit.result (habits_in c.loop-i.table) (habits_in c.add.new.self) there c.in_ok-add.ensures
    (subst (λ (h : Habits). HasHabits d u.name h) (sym c.of_unit.ensures) (unit_habits d c.requires.named c.requires.formed c.loop-i.i u _ there placed)) c.loop-i.invariant

pub returns : goal.returns
returns c =
    let d = description c.args.desc.now in
    let places = length-map c.args.units.now place_of in
    let same = unit_places-length d in
    units_all (HasHabits d) d c.requires.named c.requires.formed c.loop-i.i (habits_in c.loop-i.table) (omega (arith, ap length c.requires.places, c.loop-i-test.false)) c.loop-i.invariant
