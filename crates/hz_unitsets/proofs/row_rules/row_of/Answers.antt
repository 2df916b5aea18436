use Rattle.std.proofs.lemmas.List.{take_all}
use Rattle.hz_unitsets.proofs.RowUnits.{HasJust-more, IsRow-just, units_of-just}
use Rattle.hz_unitsets.proofs.row_rules.row_of.Goals as goal

pub loop-unit-preserved : goal.loop-unit-preserved
loop-unit-preserved c = HasJust-more c.args.units.now c.loop-unit.unit-index c.loop-unit.row c.add-row.result c.loop-unit-test.true c.loop-unit.invariant c.add-row.ensures

pub returns-clause-row : goal.returns-clause-row
returns-clause-row c =
    let all = rw (take_all c.loop-unit.unit-index c.args.units.now c.loop-unit-test.false) at c.loop-unit.invariant in
    IsRow-just c.args.units.now c.loop-unit.row c.requires all

pub returns-clause-units : goal.returns-clause-units
returns-clause-units c =
    let all = rw (take_all c.loop-unit.unit-index c.args.units.now c.loop-unit-test.false) at c.loop-unit.invariant in
    units_of-just c.args.units.now c.loop-unit.row all
