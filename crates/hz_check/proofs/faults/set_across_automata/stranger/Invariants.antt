use Rattle.std.proofs.Common.{◌≡◌, drop, filter, not}
use Rattle.hz_mdread.specs.Shape.{description}
use Rattle.hz_check.specs.Names.First.{first_of}
use Rattle.hz_description_model.specs.Check.CheckFaults.{home, same_home}
use Rattle.hz_check.proofs.faults.set_across_automata.stranger.Given as goal

abbrev pub invariant-loop-unit : goal.invariant-loop-unit
invariant-loop-unit l =
    first_of (filter (λ name. not (same_home (home (description l.names.desc.now) name) l.automaton)) (drop l.unit-index l.units))
    ≡ first_of (filter (λ name. not (same_home (home (description l.names.desc.now) name) l.automaton)) l.units)
