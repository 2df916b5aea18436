use Rattle.hz_reasons.specs.Planning.{AreRulesUpTo}
use Rattle.hz_reasons.proofs.planning.sets.rules.Given as goal

abbrev pub invariant-loop-automaton : goal.invariant-loop-automaton
invariant-loop-automaton l = AreRulesUpTo l.automaton-index l.automata l.rules.items
