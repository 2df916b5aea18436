use Rattle.std.proofs.Common.{◌≡◌, ◌++◌, map, drop}
use Rattle.hz_mdread.specs.Shape.{description, automaton_item}
use Rattle.hz_checked.specs.Shape.{automaton_of}
use Rattle.hz_description_model.specs.Check.CheckedParts.{automata_from}
use Rattle.hz_check.proofs.parts.assembly.defined_automata.Given as goal

abbrev pub invariant-loop-number : goal.invariant-loop-number
invariant-loop-number l = map automaton_of l.automata.items ++ automata_from (description l.names.desc.now) l.number (map (λ a. a.name) (map automaton_item (drop l.number l.item-items)))
    ≡ automata_from (description l.names.desc.now) 0 (map (λ a. a.name) (map automaton_item l.item-items))
