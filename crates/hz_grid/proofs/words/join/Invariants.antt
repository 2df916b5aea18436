use Rattle.std.proofs.Common.{◌≡◌, ℕ, ◌<◌, ◌≤◌, length, slice_index, bit_or}
use Rattle.hz_grid.specs.Words.{AreWords}
use Rattle.hz_grid.proofs.words.join.Given as goal

-- the words so far are joined, and the others are as they were
abbrev pub invariant-loop-place : goal.invariant-loop-place
invariant-loop-place l = record {
  length : length l.words ≡ length l.initial.words;
  small : AreWords l.words;
  joined : (k : ℕ) → k < l.place → slice_index l.words k ≡ bit_or (slice_index l.initial.words k) (slice_index l.others k);
  others : (k : ℕ) → l.place ≤ k → slice_index l.words k ≡ slice_index l.initial.words k;
}
