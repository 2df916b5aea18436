use Rattle.hz_bound.proofs.CycleLemmas.{taken_is}
use Rattle.hz_bound.proofs.cycles.takes.Goals as goal

pub returns : goal.returns
returns c = taken_is c.args.grid.now c.args.unit c.holds.result c.args.cycle c.holds.ensures.0 c.holds.ensures.1
