use Rattle.hz_grid.proofs.RowsAgain.{rows_in-pairs_from}
use Rattle.hz_grid.proofs.grid_of.GridOf.feed.Goals as goal

pub returns : goal.returns
returns g c = rw (← c.self.view_is, rows_in-pairs_from c.self.inside.rows.items c.self.invariant.rows) c.hash.ensures
