use Rattle.hz_grid.proofs.Pairs.{IsGrid-pairs_from}
use Rattle.hz_grid.proofs.Steps.{IsUnion-rows}
use Rattle.hz_grid.proofs.grid_of.GridOf.with.Goals as goal

pub returns-clause-grid : goal.returns-clause-grid
returns-clause-grid g c = IsGrid-pairs_from _ c.in_ok-joined.ensures.rows

pub returns-clause-pairs : goal.returns-clause-pairs
returns-clause-pairs g c =
    let joined = rw (c.deref.ensures.value, c.deref-2.ensures.value) at c.in_ok-joined.ensures.units in
    rw (← c.self.view_is, ← c.other.view_is) (record { pairs = IsUnion-rows _ _ _ c.self.invariant.rows c.other.invariant.rows c.in_ok-joined.ensures.rows joined })
