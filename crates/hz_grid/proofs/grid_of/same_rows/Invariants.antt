use Rattle.std.proofs.Common.{◌≡◌, ℕ, ◌<◌, slice_index}
use Rattle.hz_grid.proofs.grid_of.same_rows.Given as goal

-- the rows so far are the same
abbrev pub invariant-loop-cycle : goal.invariant-loop-cycle
invariant-loop-cycle g l = (k : ℕ) → k < l.cycle → slice_index l.first k ≡ slice_index l.second k
