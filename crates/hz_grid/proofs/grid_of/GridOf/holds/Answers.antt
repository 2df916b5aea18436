use Rattle.std.proofs.Common.{ℕ, get_or, ◌≡◌, ◌∙◌, ap₂}
use Rattle.hz_grid.proofs.Pairs.{Holds-rows}
use Rattle.hz_grid.proofs.grid_of.GridOf.holds.Goals as goal

pub returns : goal.returns
returns g c =
    let rows = c.self.inside.rows.items in
    let held = Holds-rows rows c.self.invariant.rows c.args.unit c.args.cycle in
    let is : c.row_at.result ≡ get_or rows c.args.cycle 0 = c.row_at.ensures ∙ ap₂ (λ (all : _) (place : ℕ). get_or all place 0) c.deref.ensures.value c.from.ensures in
    let reported = rw (is, c.from-2.ensures) at c.has.ensures in
    rw (← c.self.view_is) (λ t. held.1 (reported.0 t), λ h. reported.1 (held.0 h))
