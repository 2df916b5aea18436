use Rattle.std.proofs.Common.{ℕ, ◌<◌, length, slice_index}
use Rattle.hz_grid.specs.Rows.{RowsMeet}
use Rattle.hz_grid.proofs.grid_of.share_unit.Given as goal

-- no two rows so far meet
abbrev pub invariant-loop-one : goal.invariant-loop-one
invariant-loop-one g l = (k : ℕ) → k < length l.yielded → ¬ RowsMeet (slice_index l.first k) (slice_index l.second k)
