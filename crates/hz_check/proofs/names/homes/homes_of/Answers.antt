use Rattle.std.proofs.Common.{List, map, take, Contains, sym, ◌∙◌, subst}
use Rattle.hz_mdread.specs.declared.items.UnitItem.{UnitItem as StoredUnit}
use Rattle.hz_mdread.specs.Shape.{description, unit_item}
use Rattle.hz_check.proofs.Tables.HomeSteps.{homes_kept, homes_more, units_more, unit_within}
use Rattle.hz_check.proofs.names.homes.homes_of.Goals as goal
use Rattle.hz_check.proofs.names.homes.homes_of.Goals.{then-not-contains_key+in_ok-insert, else-not-contains_key}

pub loop-unit-preserved : goal.loop-unit-preserved
loop-unit-preserved c =
    let d = description c.args.desc.now in
    let items = c.deref-unit-items.result.now in
    let i = c.loop-unit.unit-index in
    let unit = c.unit-item.result in
    let before = map unit_item (take i items) in
    let inside : Contains d.units (unit_item unit) = subst (λ (xs : List StoredUnit). Contains (map unit_item xs) (unit_item unit)) c.deref-unit-items.ensures.value (unit_within items i unit c.loop-unit-test.true c.unit-item.is) in
    elim c.if-not-contains_key.branch [
      | then-not-contains_key+in_ok-insert w ↦ rw (w.homes-is, units_more items i unit c.loop-unit-test.true c.unit-item.is) (homes_more d c.requires.shared c.loop-unit.homes before c.loop-unit.invariant (unit_item unit) w.insert.new.self w.home_of.result inside (w.home_of.ensures d c.requires.placed) w.in_ok-insert.ensures.updates)
      | else-not-contains_key w ↦ rw (w.homes-is, units_more items i unit c.loop-unit-test.true c.unit-item.is) (homes_kept d c.requires.shared c.loop-unit.homes before c.loop-unit.invariant (unit_item unit) (sym c.contains_key.ensures ∙ w.if-not-contains_key.false))
    ]
