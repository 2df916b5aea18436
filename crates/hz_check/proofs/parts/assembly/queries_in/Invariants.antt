use Rattle.std.proofs.Common.{◌≡◌, ◌==◌, ◌+◌, ◌++◌, map, filter, drop, length}
use Rattle.hz_mdread.specs.Shape.{description, unit_item}
use Rattle.hz_description_model.specs.Check.CheckedParts.{units_in, queries_in, places_where}
use Rattle.hz_description_model.specs.Check.Places.{automaton_number}
use Rattle.hz_check.proofs.parts.assembly.queries_in.Given as goal

abbrev pub invariant-loop-unit : goal.invariant-loop-unit
invariant-loop-unit l = record {
  count : l.number + length (filter (λ u. automaton_number (description l.names.desc.now) u.automaton == l.automaton) (map unit_item (drop l.unit-index l.unit-items)))
      ≡ length (units_in (description l.names.desc.now) l.automaton);
  made : l.queries.items ++ places_where (λ u. u.query) l.number (filter (λ u. automaton_number (description l.names.desc.now) u.automaton == l.automaton) (map unit_item (drop l.unit-index l.unit-items)))
      ≡ queries_in (description l.names.desc.now) l.automaton;
}
