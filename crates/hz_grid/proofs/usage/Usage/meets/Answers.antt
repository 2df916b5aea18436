use Rattle.hz_grid.proofs.UsedLemmas.{rows_of_usage, meets_by_rows}
use Rattle.hz_grid.proofs.usage.Usage.meets.Goals as goal

pub returns : goal.returns
returns c =
    let rows = c.self.inside.rows.items in
    let both = meets_by_rows c.args.source.now c.self.inside.grid rows (rows_of_usage c.self.inside.grid rows c.self.inside.units c.self.invariant) in
    let some = rw c.deref.ensures.value at c.meets_some.ensures in
    rw (← c.self.view_is) (λ t. both.0 (some.0 t), λ m. some.1 (both.1 m))
