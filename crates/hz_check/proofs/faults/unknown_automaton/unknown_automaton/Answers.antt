use Rattle.std.proofs.Common.{map}
use Rattle.hz_mdread.specs.Shape.{description, unit_item}
use Rattle.hz_check.proofs.Lists.Earliest.{chosen_all}
use Rattle.hz_description_model.specs.Check.CheckFaults.{unknown_automaton_of}
use Rattle.hz_check.proofs.faults.unknown_automaton.unknown_automaton.Goals as goal

pub returns : goal.returns
returns c =
    let stored = c.args.names.now.desc.now in
    chosen_all (unknown_automaton_of (map (λ a. a.name) (description stored).automata)) unit_item _ stored.units.items _ _ c.deref-unit-items.ensures.value c.loop-unit-test.false c.loop-unit.invariant
