use Rattle.std.proofs.Common.{◌≡◌, map, take}
use Rattle.hz_reasons.specs.Walking.{numbers_of}
use Rattle.hz_explain.proofs.naming.query_numbers.Given as goal

abbrev pub invariant-loop-automaton : goal.invariant-loop-automaton
invariant-loop-automaton l = numbers_of l.all.items ≡ map (λ a. a.queries.items) (take l.automaton-index l.automata)
