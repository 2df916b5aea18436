use Rattle.std.proofs.Common.{List, map, filter, ap, ◌∙◌}
use Rattle.std.proofs.lemmas.Result.{IfOk-weaker}
use Rattle.std.specs.List.{find}
use Rattle.hz_check_reservations.specs.Shape.{place_of}
use Rattle.hz_check_reservations.specs.declared.listing.unit_place.UnitPlace.{UnitPlace}
use Rattle.hz_explain.specs.Showing.{is_marked, listed_for, shown_by}
use Rattle.hz_explain.proofs.GatherLaws.{rows_held}
use Rattle.hz_explain.proofs.picture.shown_rows.Goals as goal

pub returns : goal.returns
returns c = IfOk-weaker c.rows.result _ _ (λ rows drawn.
    let parts = c.args.parts.now in
    let plan = c.args.plan.now in
    let n = c.args.cycles in
    let held = c.deref-2.result.now in
    let marks = c.deref-3.result.now in
    drawn
    ∙ (ap (λ (places : List UnitPlace). map (shown_by parts plan held n) (filter (is_marked marks) (map place_of places))) c.deref.ensures.value
    ∙ rows_held parts plan c.args.issues.now c.args.asked.now n held marks
    (λ u test. ap (λ hs. find test (listed_for hs u)) c.deref-2.ensures.value ∙ c.in_ok-held.ensures u test)
    (λ u. ap (λ ms. is_marked ms u) c.deref-3.ensures.value ∙ c.in_ok-marks.ensures.marked u) (map place_of parts.places.items)))
    c.rows.ensures
