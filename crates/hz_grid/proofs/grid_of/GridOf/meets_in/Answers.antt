use Rattle.std.proofs.Common.{ℕ, ◌↔◌, IsTrue, get_or, subst, sym}
use Rattle.hz_grid.specs.Rows.{RowsMeet}
use Rattle.hz_grid.proofs.Pairs.{Holds-rows}
use Rattle.hz_grid.proofs.grid_of.GridOf.meets_in.Goals as goal

pub returns : goal.returns
returns g c =
    let rows = c.self.inside.rows.items in
    let held = λ (unit : ℕ). Holds-rows rows c.self.invariant.rows unit c.args.cycle in
    let met = rw (c.deref.ensures.value, c.from.ensures) at c.row_meets.ensures in
    rw (← c.self.view_is) (
      λ t. let (unit, there, has) = met.0 t in (unit, (held unit).1 there, has),
      λ m. met.1 (m.0, (held m.0).0 m.1, m.2),
    )
