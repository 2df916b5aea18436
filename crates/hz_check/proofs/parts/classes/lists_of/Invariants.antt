use Rattle.std.proofs.Common.{◌≡◌, map}
use Rattle.hz_altern.specs.Shapes.{alternatives}
use Rattle.hz_check.specs.Parts.Classes.{lists_in}
use Rattle.hz_check.proofs.parts.classes.lists_of.Given as goal

abbrev pub invariant-loop-automaton : goal.invariant-loop-automaton
invariant-loop-automaton l = map (λ list. list.items) l.lists.items ≡ lists_in l.automaton (alternatives l.alts)
