use Rattle.std.proofs.Common.{length, ap, sym, subst, ◌∙◌, arith}
use Rattle.std.specs.Prelude.{◌≢◌, [], slice_index_or}
use Rattle.std.specs.List.{AllPairs}
use Rattle.std.proofs.lemmas.List.{length-map}
use Rattle.hz_mdread.specs.Shape.{description}
use Rattle.hz_explain.proofs.NamingLaws.{classes_apart, classes_few, item_apart, item_room}
use Rattle.hz_explain.proofs.naming.trace_names.Goals as goal

pub of_classes-requires-clause-different : goal.of_classes-requires-clause-different
of_classes-requires-clause-different c = subst (AllPairs (λ a b. a ≢ b)) (sym (c.deref.ensures.value ∙ c.in_ok-classes.ensures)) (classes_apart (description c.args.desc.now) c.args.parts.now c.requires.parts c.requires.formed)

pub of_classes-requires-clause-few : goal.of_classes-requires-clause-few
of_classes-requires-clause-few c = omega (arith, ap length (c.deref.ensures.value ∙ c.in_ok-classes.ensures), classes_few (description c.args.desc.now) c.args.parts.now c.requires.parts c.requires.formed)

pub ask_names-requires : goal.ask_names-requires
ask_names-requires c = (item_apart (description c.args.desc.now) c.args.parts.now c.requires.parts c.requires.formed c.deref-automaton-items.result.now c.deref-automaton-items.ensures.value c.loop-automaton.automaton-index c.loop-automaton-test.true c.automaton-item.result c.automaton-item.is).units

pub with_units-requires-clause-different : goal.with_units-requires-clause-different
with_units-requires-clause-different c =
    let apart = item_apart (description c.args.desc.now) c.args.parts.now c.requires.parts c.requires.formed c.deref-automaton-items.result.now c.deref-automaton-items.ensures.value c.loop-automaton.automaton-index c.loop-automaton-test.true c.automaton-item.result c.automaton-item.is in
    subst (AllPairs (λ a b. a ≢ b)) (sym (c.deref-in-loop-automaton.ensures.value ∙ c.in_ok-asks.ensures)) apart.names

pub with_units-requires-clause-few : goal.with_units-requires-clause-few
with_units-requires-clause-few c =
    let a = c.automaton-item.result in
    let apart = item_apart (description c.args.desc.now) c.args.parts.now c.requires.parts c.requires.formed c.deref-automaton-items.result.now c.deref-automaton-items.ensures.value c.loop-automaton.automaton-index c.loop-automaton-test.true a c.automaton-item.is in
    omega (arith, ap length (c.deref-in-loop-automaton.ensures.value ∙ c.in_ok-asks.ensures), length-map a.queries.items (λ n. slice_index_or a.units.items n []), apart.few)

pub with_units-requires-clause-room : goal.with_units-requires-clause-room
with_units-requires-clause-room c =
    let room = item_room (description c.args.desc.now) c.args.parts.now c.requires.parts c.requires.formed c.deref-automaton-items.result.now c.deref-automaton-items.ensures.value c.loop-automaton.automaton-index c.loop-automaton-test.true in
    omega (arith, room, ap (λ names. length names.queries) c.loop-automaton.invariant)
