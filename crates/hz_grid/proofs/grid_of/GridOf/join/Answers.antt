use Rattle.hz_grid.proofs.Pairs.{IsGrid-pairs_from}
use Rattle.hz_grid.proofs.Steps.{IsUnion-rows}
use Rattle.hz_grid.proofs.grid_of.GridOf.join.Goals as goal

pub returns-clause-grid : goal.returns-clause-grid
returns-clause-grid g c = IsGrid-pairs_from _ c.join_rows.ensures.rows

pub returns-in_err-join_rows-clause-grid : goal.returns-in_err-join_rows-clause-grid
returns-in_err-join_rows-clause-grid g c = IsGrid-pairs_from _ c.join_rows.ensures.rows

pub returns-clause-pairs : goal.returns-clause-pairs
returns-clause-pairs g c =
    let joined = rw c.deref.ensures.value at c.in_ok-join_rows.ensures.units in
    rw (← c.self.view_is, ← c.other.view_is) (record { pairs = IsUnion-rows _ _ _ c.self.invariant.rows c.other.invariant.rows c.join_rows.ensures.rows joined })
