use Rattle.std.proofs.Common.{arith}
use Rattle.hz_grid.proofs.WordLemmas.{below_words}
use Rattle.hz_grid.proofs.rows.Row.holds.Goals as goal

pub returns-clause-below : goal.returns-clause-below
returns-clause-below g c t =
    let below = below_words c.self.inside.words c.from.result c.self.invariant.small (c.holds.ensures.0 t) in
    omega (arith, below, c.from.ensures, c.self.invariant.count)
