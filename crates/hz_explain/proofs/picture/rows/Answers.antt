use Rattle.std.proofs.Common.{map, get_or, ap, ◌∙◌}
use Rattle.std.specs.Option.{option_map}
use Rattle.hz_check_reservations.specs.Shape.{place_of}
use Rattle.hz_check_reservations.specs.declared.listing.unit_place.UnitPlace.{UnitPlace}
use Rattle.hz_reasons.specs.Plans.{unit_of}
use Rattle.hz_explain.specs.Showing.{is_marked, shown_in, shown_by, rows_of_unit}
use Rattle.hz_explain.proofs.ShowLaws.{rows_next, rows_one}
use Rattle.hz_explain.proofs.picture.rows.Goals as goal

pub loop-place-preserved : goal.loop-place-preserved
loop-place-preserved c =
    let parts = c.args.parts.now in
    let plan = c.args.plan.now in
    let held = c.args.held.now in
    let n = c.args.cycles in
    let none : UnitPlace = record { automaton = 0; unit = 0 } in
    let item = get_or c.args.places.now c.loop-place.place-index none in
    rows_next (is_marked c.args.marks.now) (shown_by parts plan held n) place_of c.args.places.now c.loop-place.place-index none (map shown_in c.loop-place.rows.items) (map shown_in c.add_row.new.rows.items)
    (rows_of_unit parts plan held n (option_map unit_of c.marked_unit-marked.result)) c.loop-place-test.true c.loop-place.invariant
    (ap (rows_of_unit parts plan held n) c.marked_unit-marked.ensures ∙ rows_one parts plan held n (is_marked c.args.marks.now (place_of item)) (place_of item))
    c.in_ok-add_row.ensures
