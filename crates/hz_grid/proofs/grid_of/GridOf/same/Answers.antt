use Rattle.hz_grid.proofs.Pairs.{same_from_rows}
use Rattle.hz_grid.proofs.grid_of.GridOf.same.Goals as goal

pub returns : goal.returns
returns g c =
    let reported = rw (c.deref.ensures.value, c.deref-2.ensures.value) at c.same_rows.ensures in
    rw (← c.self.view_is, ← c.other.view_is) (same_from_rows c.self.inside.rows.items c.other.inside.rows.items c.self.invariant.rows c.other.invariant.rows _ reported)
