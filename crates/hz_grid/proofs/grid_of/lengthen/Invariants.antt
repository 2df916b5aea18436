use Rattle.std.proofs.Common.{◌↔◌, ℕ, ◌≡◌, ◌-◌, ◌≤◌, max, take, vec_len}
use Rattle.hz_grid.specs.Stored.{IsSet}
use Rattle.hz_grid.proofs.grid_of.lengthen.Given as goal

abbrev pub invariant-loop-rows : goal.invariant-loop-rows
invariant-loop-rows g l = record {
  longer : vec_len l.initial.rows ≤ vec_len l.rows;
  within : vec_len l.rows ≤ max (vec_len l.initial.rows) l.length;
  start : take (vec_len l.initial.rows) l.rows.items ≡ l.initial.rows.items;
  units : (unit cycle : ℕ) → IsSet l.rows.items unit cycle ↔ IsSet l.initial.rows.items unit cycle;
}

abbrev pub decreases-loop-rows : goal.decreases-loop-rows
decreases-loop-rows g l = l.length - vec_len l.rows
