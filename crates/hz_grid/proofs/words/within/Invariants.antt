use Rattle.std.proofs.Common.{ℕ, ◌<◌, slice_index}
use Rattle.hz_grid.specs.Rows.{IsWithin}
use Rattle.hz_grid.proofs.words.within.Given as goal

-- the words so far are within those of the other
abbrev pub invariant-loop-place : goal.invariant-loop-place
invariant-loop-place l = (k : ℕ) → k < l.place → IsWithin (slice_index l.first k) (slice_index l.second k)
