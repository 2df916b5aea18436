use Rattle.std.proofs.Common.{◌≡◌, map, drop}
use Rattle.std.specs.List.{filter_map}
use Rattle.hz_mdread.specs.Shape.{description, unit_item}
use Rattle.hz_check_reservations.specs.Places.{reported}
use Rattle.hz_description_model.specs.Check.CheckFaults.{unknown_automaton_of}
use Rattle.hz_description_model.specs.Check.Sites.{earlier, earliest}
use Rattle.hz_check.proofs.faults.unknown_automaton.unknown_automaton.Given as goal

abbrev pub invariant-loop-unit : goal.invariant-loop-unit
invariant-loop-unit l =
    earlier (reported l.first) (earliest (filter_map (λ u. unknown_automaton_of (map (λ a. a.name) (description l.names.desc.now).automata) (unit_item u)) (drop l.unit-index l.unit-items)))
    ≡ earliest (filter_map (λ u. unknown_automaton_of (map (λ a. a.name) (description l.names.desc.now).automata) (unit_item u)) l.unit-items)
