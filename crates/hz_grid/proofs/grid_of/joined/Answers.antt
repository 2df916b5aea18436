use Rattle.std.proofs.Common.{length, ap, arith}
use Rattle.hz_grid.specs.Stored.{IsJoined}
use Rattle.hz_grid.proofs.Steps.{IsRows-joined, IsJoined-after}
use Rattle.hz_grid.proofs.grid_of.joined.Goals as goal
use Rattle.hz_grid.proofs.grid_of.joined.Given as given

both : (g : given.Over) (c : goal.After-overlay g) → IsJoined c.args.first.now c.args.second.now c.overlay.new.rows.items
both g c = IsJoined-after c.args.first.now c.args.second.now c.lengthen.new.rows.items c.overlay.new.rows.items (rw c.in_ok-rows.ensures at c.in_ok-lengthen.ensures.units) c.overlay.ensures.units

pub returns-clause-rows : goal.returns-clause-rows
returns-clause-rows g c =
    let one = c.overlay.ensures.length in
    let two = c.in_ok-lengthen.ensures.length in
    let three = ap length c.in_ok-rows.ensures in
    IsRows-joined c.args.first.now c.args.second.now c.overlay.new.rows.items c.requires.first c.requires.second (omega arith) (both g c)

pub returns-clause-units : goal.returns-clause-units
returns-clause-units g c = both g c
