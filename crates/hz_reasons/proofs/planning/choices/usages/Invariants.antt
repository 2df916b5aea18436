use Rattle.std.proofs.Common.{◌≡◌, map}
use Rattle.std.specs.List.{range_with_len}
use Rattle.hz_altern.specs.Shapes.{alternative_of}
use Rattle.hz_description_model.specs.Reservations.Automata.{cut}
use Rattle.hz_reasons.proofs.planning.choices.usages.Given as goal

abbrev pub invariant-loop-automaton : goal.invariant-loop-automaton
invariant-loop-automaton l = l.usages.items ≡ map (λ a. cut a (alternative_of l.alt).pairs) (range_with_len 0 l.automaton)
