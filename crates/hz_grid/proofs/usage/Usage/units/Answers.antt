use Rattle.hz_grid.proofs.UsedLemmas.{units_of_usage}
use Rattle.hz_grid.proofs.usage.Usage.units.Goals as goal

pub returns : goal.returns
returns c = rw (← c.self.view_is) (units_of_usage c.self.inside.grid c.self.inside.rows.items c.self.inside.units c.self.invariant)
