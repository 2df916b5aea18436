use Rattle.std.proofs.Common.{◌≡◌, ◌==◌, ◌++◌, map, filter, drop}
use Rattle.hz_mdread.specs.Shape.{description, unit_item}
use Rattle.hz_description_model.specs.Check.CheckedParts.{units_in}
use Rattle.hz_description_model.specs.Check.Places.{automaton_number}
use Rattle.hz_check.proofs.parts.assembly.units_in.Given as goal

abbrev pub invariant-loop-unit : goal.invariant-loop-unit
invariant-loop-unit l =
    map (λ n. n) l.units.items ++ map (λ u. u.name) (filter (λ u. automaton_number (description l.names.desc.now) u.automaton == l.automaton) (map unit_item (drop l.unit-index l.unit-items)))
    ≡ units_in (description l.names.desc.now) l.automaton
