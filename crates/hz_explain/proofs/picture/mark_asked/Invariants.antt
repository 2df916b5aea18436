use Rattle.std.proofs.Common.{◌≡◌, drop, length}
use Rattle.std.specs.Prelude.{◌||◌}
use Rattle.hz_description_model.specs.Reservations.Automata.{UnitPlace}
use Rattle.hz_explain.specs.Showing.{is_marked, is_asked}
use Rattle.hz_explain.proofs.picture.mark_asked.Given as goal

abbrev pub invariant-loop-choice : goal.invariant-loop-choice
invariant-loop-choice l = record {
  each : length l.marks.items ≡ 65536;
  marked : (u : UnitPlace) → (is_asked (drop l.choice-index l.choices) u || is_marked l.marks.items u) ≡ (is_asked l.choices u || is_marked l.fn.marks.items u);
}
