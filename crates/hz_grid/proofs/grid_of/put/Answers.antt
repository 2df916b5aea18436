use Rattle.std.proofs.Common.{◌<◌, length, set, arith}
use Rattle.std.proofs.lemmas.List.{length-set, get_or_read}
use Rattle.hz_grid.specs.Stored.{GainsUnit}
use Rattle.hz_grid.proofs.Steps.{IsRows-gains, GainsUnit-set, GainsUnit-lengthened}
use Rattle.hz_grid.proofs.grid_of.put.Goals as goal
use Rattle.hz_grid.proofs.grid_of.put.Given as given

gains : (g : given.Over) (c : goal.After-rows-1 g) → GainsUnit c.args.unit c.args.cycle c.args.rows.now.items (set c.lengthen.new.rows.items c.from-place.result c.add.result)
gains g c =
    let mid = c.lengthen.new.rows.items in
    let long = c.in_ok-lengthen.ensures.length in
    let within : c.from-place.result < length mid = omega arith in
    let read = get_or_read mid c.from-place.result c.index.result.now within c.index.ensures 0 in
    let set_there = GainsUnit-set mid c.args.unit c.from-place.result c.add.result within (rw (← read) c.add.ensures) in
    rw (← c.from-place.ensures) (GainsUnit-lengthened c.args.unit c.from-place.result _ mid _ c.in_ok-lengthen.ensures.units set_there)

pub returns-clause-rows : goal.returns-clause-rows
returns-clause-rows g c =
    let long = c.in_ok-lengthen.ensures.length in
    let kept = length-set c.lengthen.new.rows.items c.from-place.result c.add.result in
    IsRows-gains c.args.unit c.args.cycle c.args.rows.now.items _ c.requires.rows (omega (arith, c.requires.few, c.requires.unit)) c.requires.cycle (omega arith) (gains g c)

pub returns-clause-units : goal.returns-clause-units
returns-clause-units g c = gains g c
