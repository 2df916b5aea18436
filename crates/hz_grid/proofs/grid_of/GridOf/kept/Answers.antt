use Rattle.hz_grid.proofs.Pairs.{IsGrid-pairs_from}
use Rattle.hz_grid.proofs.grid_of.GridOf.kept.Goals as goal

pub returns : goal.returns
returns g c = rw (← c.self.view_is) (IsGrid-pairs_from c.self.inside.rows.items c.self.invariant.rows)
