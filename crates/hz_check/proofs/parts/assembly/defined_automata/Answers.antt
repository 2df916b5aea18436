use Rattle.std.proofs.Common.{◌++◌, ◌∷◌, ◌+◌, map, drop, sym, ap, ◌∙◌, add-one}
use Rattle.hz_mdread.specs.Shape.{description, automaton_item}
use Rattle.hz_checked.specs.Shape.{automaton_of}
use Rattle.hz_check.proofs.Lists.Next.{push_before, drop_next}
use Rattle.hz_description_model.specs.Check.CheckedParts.{automata_from, automaton_parts}
use Rattle.hz_check.proofs.parts.assembly.defined_automata.Goals as goal

pub loop-number-preserved : goal.loop-number-preserved
loop-number-preserved c =
    let d = description c.args.names.now.desc.now in
    let items = c.deref-item-items.result.now in
    let n = c.loop-number.number in
    let item = c.item-item.result in
    let made = c.loop-number.automata.items in
    let rest = map (λ a. a.name) (map automaton_item (drop (n + 1) items)) in
    push_before automaton_of made c.push.new.self.items c.in_ok-automaton.automaton (automaton_parts d n item.name) (automata_from d (n + 1) rest) c.in_ok-push.ensures.items (c.in_ok-automaton.ensures ∙ ap (automaton_parts d n) c.in_ok-name.ensures)
    ∙ (ap (λ m. map automaton_of made ++ (automaton_parts d n item.name ∷ automata_from d m rest)) (add-one n)
    ∙ (ap (λ xs. map automaton_of made ++ automata_from d n (map (λ a. a.name) (map automaton_item xs))) (sym (drop_next items n item c.item-item.is c.loop-number-test.true)) ∙ c.loop-number.invariant))
