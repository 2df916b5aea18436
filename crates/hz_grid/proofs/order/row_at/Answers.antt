use Rattle.std.proofs.Common.{◌≤◌, ◌∙◌, length, sym, arith}
use Rattle.std.proofs.lemmas.Bool.Decides.{nat_tests}
use Rattle.std.proofs.lemmas.List.{get_or_past}
use Rattle.hz_grid.proofs.Units.{HasUnit-zero, same_from_units}
use Rattle.hz_grid.proofs.order.row_at.Goals as goal

pub returns-in-None : goal.returns-in-None
returns-in-None g c =
    let past : length c.args.rows.now ≤ c.args.cycle = grind (arith, nat_tests, c.in-None.ensures.lookup.0) in
    same_from_units _ 0 (λ unit. (λ h. absurd (c.empty.ensures unit h), λ h. absurd (HasUnit-zero unit h))) ∙ sym (get_or_past c.args.rows.now c.args.cycle 0 past)
