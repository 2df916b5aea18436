use Rattle.std.proofs.Common.{◌≡◌, drop}
use Rattle.std.specs.List.{flat_map}
use Rattle.hz_check.specs.Names.First.{first_of}
use Rattle.hz_check.proofs.faults.set_across_automata.first_in.Given as goal

abbrev pub invariant-loop-pattern : goal.invariant-loop-pattern
invariant-loop-pattern l = first_of (flat_map (λ pattern. pattern.items) (drop l.pattern-index l.patterns)) ≡ first_of (flat_map (λ pattern. pattern.items) l.patterns)
