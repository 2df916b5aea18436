use Rattle.std.proofs.Common.{◌≡◌, drop, length}
use Rattle.std.specs.Prelude.{◌||◌}
use Rattle.hz_description_model.specs.Reservations.Automata.{UnitPlace}
use Rattle.hz_explain.specs.Showing.{is_marked, is_kept}
use Rattle.hz_explain.proofs.picture.mark_kept.Given as goal

abbrev pub invariant-loop-place : goal.invariant-loop-place
invariant-loop-place l = record {
  each : length l.marks.items ≡ 65536;
  marked : (u : UnitPlace) → (is_kept l.plan (drop l.place l.issues) u || is_marked l.marks.items u) ≡ (is_kept l.plan l.issues u || is_marked l.fn.marks.items u);
}
