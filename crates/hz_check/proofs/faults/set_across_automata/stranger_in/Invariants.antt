use Rattle.std.proofs.Common.{◌≡◌, drop, filter, not}
use Rattle.std.specs.List.{flat_map}
use Rattle.hz_mdread.specs.Shape.{description}
use Rattle.hz_check.specs.Names.First.{first_of}
use Rattle.hz_description_model.specs.Check.CheckFaults.{home, same_home}
use Rattle.hz_check.proofs.faults.set_across_automata.stranger_in.Given as goal

abbrev pub invariant-loop-pattern : goal.invariant-loop-pattern
invariant-loop-pattern l =
    first_of (filter (λ name. not (same_home (home (description l.names.desc.now) name) l.automaton)) (flat_map (λ pattern. pattern.items) (drop l.pattern-index l.patterns)))
    ≡ first_of (filter (λ name. not (same_home (home (description l.names.desc.now) name) l.automaton)) (flat_map (λ pattern. pattern.items) l.patterns))
