use Rattle.std.proofs.Common.{◌≤◌, length, arith}
use Rattle.std.proofs.lemmas.Bool.Decides.{nat_tests}
use Rattle.std.proofs.lemmas.List.{get_or_past}
use Rattle.hz_grid.proofs.Units.{HasUnit-zero}
use Rattle.hz_grid.proofs.grid_of.row_meets.Goals as goal

pub returns-in-None : goal.returns-in-None
returns-in-None g c =
    let past : length c.args.rows.now ≤ c.args.cycle = grind (arith, nat_tests, c.in-None.ensures.lookup.0) in (
      λ t. absurd (cc),
      λ m. absurd (HasUnit-zero m.0 (rw (get_or_past c.args.rows.now c.args.cycle 0 past) at m.1)),
    )
