use Rattle.std.proofs.Common.{◌≡◌, ◌+◌, ℕ, length, drop, max}
use Rattle.std.specs.Prelude.{slice_index}
use Rattle.hz_sched.specs.Rows.{edges_to}
use Rattle.hz_sched.specs.Waits.{leading, ripe_from}
use Rattle.hz_sched.proofs.waiting.release.Given as goal

-- with the successors that are left, what is waited for is what it is to be
abbrev pub invariant-loop-successor : goal.invariant-loop-successor
invariant-loop-successor l = record {
  counts_size : length l.counts ≡ length l.initial.counts;
  ripes_size : length l.ripes ≡ length l.initial.ripes;
  counted : (j : ℕ) → slice_index l.counts j + leading j (edges_to l.row) ≡ slice_index l.initial.counts j + leading j (edges_to (drop l.successor-index l.row));
  waited : (j : ℕ) → max (slice_index l.ripes j) (ripe_from l.cycle j (edges_to (drop l.successor-index l.row))) ≡ max (slice_index l.initial.ripes j) (ripe_from l.cycle j (edges_to l.row));
}
