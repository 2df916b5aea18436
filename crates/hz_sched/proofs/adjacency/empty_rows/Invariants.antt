use Rattle.std.proofs.Common.{◌≡◌, ℕ, [], length}
use Rattle.hz_sched.specs.Rows.{row_at}
use Rattle.hz_sched.proofs.adjacency.empty_rows.Given as goal

abbrev pub invariant-loop-count : goal.invariant-loop-count
invariant-loop-count l = record {
  size : length l.rows.items ≡ l.count-index;
  none : (i : ℕ) → row_at l.rows.items i ≡ [];
}
