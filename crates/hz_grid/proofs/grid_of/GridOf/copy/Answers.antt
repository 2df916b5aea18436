use Rattle.hz_grid.proofs.Pairs.{IsGrid-pairs_from}
use Rattle.hz_grid.proofs.grid_of.GridOf.copy.Goals as goal

pub returns-clause-grid : goal.returns-clause-grid
returns-clause-grid g c = rw (c.in_ok-from_slice.ensures.items, c.deref.ensures.value) (IsGrid-pairs_from _ c.self.invariant.rows)
