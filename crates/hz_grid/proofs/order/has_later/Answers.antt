use Rattle.std.proofs.Common.{◌≤◌, ◌+◌, length, subst, sym, arith}
use Rattle.std.proofs.lemmas.Bool.Decides.{nat_tests}
use Rattle.hz_grid.specs.Rows.{HasAbove}
use Rattle.hz_grid.proofs.OrderSteps.{later_is_above}
use Rattle.hz_grid.proofs.order.has_later.Goals as goal

pub returns-else-rows-cycle-clause-none : goal.returns-else-rows-cycle-clause-none
returns-else-rows-cycle-clause-none g c later =
    let most : length c.args.rows.now ≤ c.args.cycle + 1 = grind (arith, nat_tests) in
    let above = later_is_above c.args.rows.now c.args.cycle c.args.unit most later in
    c.has_above.ensures.1 (subst (λ row. HasAbove row c.args.unit) (sym c.row_at.ensures) above)
