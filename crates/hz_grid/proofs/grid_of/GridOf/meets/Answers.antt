use Rattle.hz_grid.proofs.Pairs.{IsGrid-pairs_from}
use Rattle.hz_grid.proofs.Steps.{Meets-rows}
use Rattle.hz_grid.proofs.grid_of.GridOf.meets.Goals as goal

pub returns-clause-meets : goal.returns-clause-meets
returns-clause-meets g c =
    let both = Meets-rows c.self.inside.rows.items c.other.inside.rows.items c.self.invariant.rows c.other.invariant.rows in
    let shared = rw (c.deref.ensures.value, c.deref-2.ensures.value) at c.share_unit.ensures in
    rw (← c.self.view_is, ← c.other.view_is) (λ t. both.0 (shared.0 t), λ m. shared.1 (both.1 m))

pub returns-clause-grid : goal.returns-clause-grid
returns-clause-grid g c = rw (← c.self.view_is) (IsGrid-pairs_from _ c.self.invariant.rows)

pub returns-clause-other : goal.returns-clause-other
returns-clause-other g c = rw (← c.other.view_is) (IsGrid-pairs_from _ c.other.invariant.rows)
