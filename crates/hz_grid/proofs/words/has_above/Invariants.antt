use Rattle.std.proofs.Common.{◌≡◌, ℕ, ◌/◌, ◌<◌, slice_index}
use Rattle.hz_grid.proofs.words.has_above.Given as goal

-- the words after the unit's own have no unit so far
abbrev pub invariant-loop-place : goal.invariant-loop-place
invariant-loop-place l = (k : ℕ) → l.unit / 64 < k → k < l.place → slice_index l.words k ≡ 0
