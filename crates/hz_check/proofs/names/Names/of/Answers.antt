use Rattle.std.proofs.Common.{map, ap, ◌∙◌}
use Rattle.hz_mdread.specs.Shape.{automaton_item, unit_item, reservation_item, class_item, attribute_item}
use Rattle.hz_check.specs.Names.Held.{held}
use Rattle.hz_check.specs.Names.{test_of}
use Rattle.hz_check.proofs.Tables.TableSteps.{placed}
use Rattle.hz_description_model.specs.Check.CheckFaults.{values_of}
use Rattle.hz_check.proofs.names.Names.of.Goals as goal

pub invariant_of-result-clause-automata_placed : goal.invariant_of-result-clause-automata_placed
invariant_of-result-clause-automata_placed c = λ q. placed (λ a. a.name) automaton_item c.deref.result.now c.args.desc.now.automata.items (held c.in_ok-automata.automata q) q c.deref.ensures.value (c.in_ok-automata.ensures q)

pub invariant_of-result-clause-units_placed : goal.invariant_of-result-clause-units_placed
invariant_of-result-clause-units_placed c = λ q. placed (λ u. u.name) unit_item c.deref-2.result.now c.args.desc.now.units.items (held c.in_ok-units.units q) q c.deref-2.ensures.value (c.in_ok-units.ensures q)

pub invariant_of-result-clause-reservations_placed : goal.invariant_of-result-clause-reservations_placed
invariant_of-result-clause-reservations_placed c = λ q. placed (λ r. r.name) reservation_item c.deref-3.result.now c.args.desc.now.reservations.items (held c.in_ok-reservations.reservations q) q c.deref-3.ensures.value (c.in_ok-reservations.ensures q)

pub invariant_of-result-clause-classes_placed : goal.invariant_of-result-clause-classes_placed
invariant_of-result-clause-classes_placed c = λ q. placed (λ k. k.name) class_item c.deref-4.result.now c.args.desc.now.classes.items (held c.in_ok-classes.classes q) q c.deref-4.ensures.value (c.in_ok-classes.ensures q)

pub invariant_of-result-clause-values_right : goal.invariant_of-result-clause-values_right
invariant_of-result-clause-values_right c = λ q. c.in_ok-values.ensures q ∙ ap (λ items. test_of (values_of (map attribute_item items) q)) c.deref-5.ensures.value

pub homes_of-requires-clause-placed : goal.homes_of-requires-clause-placed
homes_of-requires-clause-placed c = λ q. placed (λ a. a.name) automaton_item c.deref.result.now c.args.desc.now.automata.items (held c.in_ok-automata.automata q) q c.deref.ensures.value (c.in_ok-automata.ensures q)
