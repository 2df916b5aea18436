use Rattle.std.proofs.Common.{◌≡◌, ℕ, ◌<◌, ◌==◌, map, take, drop, length, get_or}
use Rattle.std.specs.Prelude.{count_by}
use Rattle.hz_mdread.specs.Shape.{description, unit_item}
use Rattle.hz_description_model.specs.Check.CheckFaults.{past_units}
use Rattle.hz_description_model.specs.Check.Places.{automaton_numbers, places_after, unit_places}
use Rattle.hz_check.proofs.faults.past_units.past_unit.Given as goal

abbrev pub invariant-loop-unit : goal.invariant-loop-unit
invariant-loop-unit l =
    let d = description l.names.desc.now in
    let done = map unit_item (take l.unit-index l.unit-items) in
    let rest = map unit_item (drop l.unit-index l.unit-items) in
    record {
      size : length l.counts ≡ 16;
      counts : (automaton : ℕ) → automaton < 16 → get_or l.counts automaton 0 ≡ count_by (λ a. a == automaton) (automaton_numbers d done);
      past : past_units d.units (unit_places d) ≡ past_units rest (places_after d done rest);
    }
