use Rattle.std.proofs.Common.{◌≡◌, map, filter, take}
use Rattle.hz_check_reservations.specs.Shape.{place_of}
use Rattle.hz_explain.specs.Showing.{is_marked, shown_in, shown_by}
use Rattle.hz_explain.proofs.picture.rows.Given as goal

abbrev pub invariant-loop-place : goal.invariant-loop-place
invariant-loop-place l = map shown_in l.rows.items ≡ map (shown_by l.parts l.plan l.held l.cycles) (filter (is_marked l.marks) (map place_of (take l.place-index l.places)))
