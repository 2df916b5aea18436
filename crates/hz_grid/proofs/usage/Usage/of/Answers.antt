use Rattle.hz_grid.proofs.UsedLemmas.{usage_of}
use Rattle.hz_grid.proofs.usage.Usage.of.Goals as goal

pub invariant_of-result : goal.invariant_of-result
invariant_of-result c = usage_of c.args.grid c.in_ok-rows.rows.items c.units_in-units.result c.in_ok-rows.ensures (rw c.deref.ensures.value at c.units_in-units.ensures)
