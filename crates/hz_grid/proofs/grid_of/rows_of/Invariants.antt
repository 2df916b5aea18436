use Rattle.std.proofs.Common.{◌↔◌, ℕ, take, Contains}
use Rattle.hz_grid.specs.Stored.{IsSet, IsRows}
use Rattle.hz_grid.proofs.grid_of.rows_of.Given as goal

abbrev pub invariant-loop-pair : goal.invariant-loop-pair
invariant-loop-pair g l = record {
  rows : IsRows l.rows.items;
  units : (unit cycle : ℕ) → IsSet l.rows.items unit cycle ↔ Contains (take l.pair-index l.pairs) (unit, cycle);
}
