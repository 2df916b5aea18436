use Rattle.std.proofs.Common.{◌≡◌, ◌↔◌, ◌⊎◌, ℕ, ◌<◌, ◌≤◌, vec_len, slice_index}
use Rattle.hz_grid.specs.Stored.{IsSet}
use Rattle.hz_grid.proofs.grid_of.overlay.Given as goal

-- the rows so far are joined, and the others are as they were
abbrev pub invariant-loop-cycle : goal.invariant-loop-cycle
invariant-loop-cycle g l = record {
  length : vec_len l.rows ≡ vec_len l.initial.rows;
  joined : (unit cycle : ℕ) → cycle < l.cycle → IsSet l.rows.items unit cycle ↔ (IsSet l.initial.rows.items unit cycle ⊎ IsSet l.others unit cycle);
  others : (cycle : ℕ) → l.cycle ≤ cycle → slice_index l.rows.items cycle ≡ slice_index l.initial.rows.items cycle;
}
