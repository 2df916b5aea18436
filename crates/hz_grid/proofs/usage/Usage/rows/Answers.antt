use Rattle.hz_grid.proofs.UsedLemmas.{rows_of_usage}
use Rattle.hz_grid.proofs.usage.Usage.rows.Goals as goal

pub returns : goal.returns
returns c = rw (← c.self.view_is, c.deref.ensures.value) (rows_of_usage c.self.inside.grid c.self.inside.rows.items c.self.inside.units c.self.invariant)
