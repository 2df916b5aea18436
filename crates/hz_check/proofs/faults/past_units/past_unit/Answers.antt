use Rattle.std.proofs.Common.{◌<◌, ◌≤◌, map, Some, arith, sym, ap, ◌∙◌, subst}
use Rattle.std.specs.List.{AllPairs}
use Rattle.std.proofs.Math.ListN.{length-set}
use Rattle.hz_mdread.specs.Shape.{description, unit_item}
use Rattle.hz_check.proofs.Telling.PlaceSteps.{automaton_below, counts_next, within_next, past_here}
use Rattle.hz_check.proofs.faults.past_units.past_unit.Goals as goal

pub returns-then-from-ge-UNITS : goal.returns-then-from-ge-UNITS
returns-then-from-ge-UNITS c =
    let d = description c.args.names.now.desc.now in
    let items = c.deref-unit-items.result.now in
    let i = c.loop-unit.unit-index in
    let item = c.unit-item.result in
    let number = c.automaton_number-number.result in
    let few : number < 16 = subst (λ n. n < 16) (sym c.automaton_number-number.ensures) (automaton_below d item.automaton (c.requires.few)) in
    ap Some c.site.ensures ∙ sym (past_here d items i item c.unit-item.is c.loop-unit-test.true c.loop-unit.counts c.loop-unit.invariant.counts number c.automaton_number-number.ensures few _ (omega (arith, c.if-from-ge-UNITS.true, c.from.ensures)) (subst (λ xs. AllPairs (λ u v. u.form ≤ v.form) (map unit_item xs)) (sym c.deref-unit-items.ensures.value) c.requires.ordered) c.loop-unit.invariant.past)

pub loop-unit-preserved : goal.loop-unit-preserved
loop-unit-preserved c =
    let d = description c.args.names.now.desc.now in
    let items = c.deref-unit-items.result.now in
    let i = c.loop-unit.unit-index in
    let item = c.unit-item.result in
    let number = c.automaton_number-number.result in
    let few : number < 16 = subst (λ n. n < 16) (sym c.automaton_number-number.ensures) (automaton_below d item.automaton (c.requires.few)) in
    record {
      size = omega (arith, length-set c.loop-unit.counts, c.loop-unit.invariant.size);
      counts = counts_next d items i item c.unit-item.is c.loop-unit-test.true c.loop-unit.counts c.loop-unit.invariant.counts number c.automaton_number-number.ensures few c.loop-unit.invariant.size;
      past = within_next d items i item c.unit-item.is c.loop-unit-test.true c.loop-unit.counts c.loop-unit.invariant.counts number c.automaton_number-number.ensures few _ (omega (arith, c.if-from-ge-UNITS.false, c.from.ensures)) c.loop-unit.invariant.past;
    }
