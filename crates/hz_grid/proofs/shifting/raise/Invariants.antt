use Rattle.std.proofs.Common.{◌≡◌, ◌↔◌, ℕ, ◌+◌, ◌*◌, ◌<◌, length, slice_index}
use Rattle.hz_grid.specs.Rows.{HasUnit}
use Rattle.hz_grid.specs.Words.{row_of, IsRaised}
use Rattle.hz_grid.proofs.shifting.raise.Given as goal

-- the words so far are raised
abbrev pub invariant-loop-place : goal.invariant-loop-place
invariant-loop-place l = record {
  length : length l.raised ≡ length l.initial.raised;
  small : (k : ℕ) → k < l.place → slice_index l.raised k < 18446744073709551616;
  done : (k : ℕ) → k < l.place → (bit : ℕ) → bit < 64 → HasUnit (slice_index l.raised k) bit ↔ IsRaised (row_of l.words) l.by (64 * k + bit);
}
