use Rattle.std.proofs.Common.{◌<◌, ◌+◌, ◌++◌, ◌∷◌, [], sym, ap, ◌∙◌, subst, get_or}
use Rattle.std.proofs.Math.ListN.{set}
use Rattle.hz_mdread.specs.Shape.{description}
use Rattle.hz_check.proofs.Telling.PlaceSteps.{ArePlacedTo, automaton_below, placed_next}
use Rattle.hz_check.proofs.faults.past_units.unit_places.Goals as goal

pub loop-unit-preserved : goal.loop-unit-preserved
loop-unit-preserved c =
    let d = description c.args.names.now.desc.now in
    let items = c.deref-unit-items.result.now in
    let item = c.unit-item.result in
    let number = c.automaton_number-number.result in
    let few : number < 16 = subst (λ n. n < 16) (sym c.automaton_number-number.ensures) (automaton_below d item.automaton (c.requires.few)) in
    subst (λ places. ArePlacedTo d items (c.loop-unit.unit-index + 1) (set c.loop-unit.counts number (get_or c.loop-unit.counts number 0 + 1)) places)
    (ap (λ n. c.loop-unit.places.items ++ record { automaton = number; unit = n } ∷ []) (sym c.from.ensures) ∙ sym c.in_ok-push.ensures.items)
    (placed_next d items c.loop-unit.unit-index item c.unit-item.is c.loop-unit-test.true c.loop-unit.counts c.loop-unit.places.items number c.automaton_number-number.ensures few c.loop-unit.invariant)
