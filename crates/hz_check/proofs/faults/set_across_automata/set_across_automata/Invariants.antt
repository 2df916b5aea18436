use Rattle.std.proofs.Common.{◌≡◌, drop}
use Rattle.std.specs.List.{flat_map}
use Rattle.hz_mdread.specs.Shape.{description, set_item}
use Rattle.hz_check_reservations.specs.Places.{reported}
use Rattle.hz_description_model.specs.Check.CheckFaults.{sites_of, strangers, names_of_set}
use Rattle.hz_description_model.specs.Check.Sites.{earlier, earliest}
use Rattle.hz_check.proofs.faults.set_across_automata.set_across_automata.Given as goal

abbrev pub invariant-loop-set : goal.invariant-loop-set
invariant-loop-set l =
    earlier (reported l.first) (earliest (flat_map (λ s. sites_of s.line s.form (strangers (description l.names.desc.now) (names_of_set (set_item s)))) (drop l.set-index l.set-items)))
    ≡ earliest (flat_map (λ s. sites_of s.line s.form (strangers (description l.names.desc.now) (names_of_set (set_item s)))) l.set-items)
