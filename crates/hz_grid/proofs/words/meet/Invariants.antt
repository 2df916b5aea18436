use Rattle.std.proofs.Common.{ℕ, ◌<◌, slice_index}
use Rattle.hz_grid.specs.Rows.{RowsMeet}
use Rattle.hz_grid.proofs.words.meet.Given as goal

-- no two words so far meet
abbrev pub invariant-loop-place : goal.invariant-loop-place
invariant-loop-place l = (k : ℕ) → k < l.place → RowsMeet (slice_index l.first k) (slice_index l.second k) → ⊥
