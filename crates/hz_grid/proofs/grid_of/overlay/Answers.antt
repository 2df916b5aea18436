use Rattle.std.proofs.Common.{⊎_elim, arith}
use Rattle.std.proofs.lemmas.Bool.{cases_lt}
use Rattle.hz_grid.proofs.Steps.{IsJoined-end}
use Rattle.hz_grid.proofs.grid_of.overlay.Goals as goal

pub returns-clause-units : goal.returns-clause-units
returns-clause-units g c = λ unit cycle.
    ⊎_elim
    (c.loop-cycle.invariant.joined unit cycle)
    (λ past. IsJoined-end c.args.rows.now.items c.args.others.now c.loop-cycle.rows.items unit cycle (omega arith) (c.loop-cycle.invariant.others cycle past))
    (cases_lt cycle c.loop-cycle.cycle)
