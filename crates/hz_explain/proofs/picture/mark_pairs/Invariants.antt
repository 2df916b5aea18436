use Rattle.std.proofs.Common.{◌≡◌, drop, length}
use Rattle.std.specs.Prelude.{◌||◌}
use Rattle.std.specs.List.{list_any}
use Rattle.hz_description_model.specs.Reservations.Automata.{UnitPlace}
use Rattle.hz_explain.specs.Showing.{is_marked, is_of}
use Rattle.hz_explain.proofs.picture.mark_pairs.Given as goal

abbrev pub invariant-loop-place : goal.invariant-loop-place
invariant-loop-place l = record {
  each : length l.marks.items ≡ 65536;
  marked : (u : UnitPlace) → (list_any (is_of l.age u) (drop l.place l.pairs) || is_marked l.marks.items u) ≡ (list_any (is_of l.age u) l.pairs || is_marked l.fn.marks.items u);
}
