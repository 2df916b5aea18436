use Rattle.std.proofs.Common.{◌≡◌, ◌==◌, [], filter_map, length, sym, ap, ◌∙◌, cond, false}
use Rattle.std.proofs.lemmas.List.{length-map}
use Rattle.hz_mdread.specs.Shape.{description, unit_item, automaton_item}
use Rattle.hz_check.proofs.Lists.Earliest.{chosen_all}
use Rattle.hz_description_model.specs.Check.CheckFaults.{homeless}
use Rattle.hz_description_model.specs.Check.Sites.{earliest}
use Rattle.hz_check.proofs.faults.unit_needs_automaton.unit_without_automaton.Goals as goal

pub returns : goal.returns
returns c =
    let stored = c.args.desc.now in
    let some : (length (description stored).automata == 0) ≡ false =
    ap (λ n. n == 0) (length-map stored.automata.items automaton_item ∙ sym stored.automata.ok.0) ∙ sym c.if-is_empty.ensures in
    chosen_all homeless unit_item _ stored.units.items _ _ c.deref-unit-items.ensures.value c.loop-unit-test.false c.loop-unit.invariant
    ∙ ap (λ b. earliest (cond b [] (filter_map homeless (description stored).units))) (sym some)
