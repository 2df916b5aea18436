use Rattle.std.proofs.Common.{◌≡◌, length, arith}
use Rattle.hz_grid.proofs.Pairs.{IsGrid-pairs_from}
use Rattle.hz_grid.proofs.Steps.{cycle_below_length, Holds-last}
use Rattle.hz_grid.proofs.grid_of.GridOf.length.Goals as goal

pub returns-clause-above : goal.returns-clause-above
returns-clause-above g c =
    let rows = c.self.inside.rows.items in
    let e : c.len.result ≡ length rows = omega arith in
    rw (← c.self.view_is, e) (cycle_below_length rows c.self.invariant.rows)

pub returns-clause-reached : goal.returns-clause-reached
returns-clause-reached g c =
    let rows = c.self.inside.rows.items in
    let e : c.len.result ≡ length rows = omega arith in
    rw (← c.self.view_is, e) (Holds-last rows c.self.invariant.rows)

pub returns-clause-grid : goal.returns-clause-grid
returns-clause-grid g c = rw (← c.self.view_is) (IsGrid-pairs_from _ c.self.invariant.rows)
