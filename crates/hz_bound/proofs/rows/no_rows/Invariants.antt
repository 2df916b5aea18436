use Rattle.std.proofs.Common.{◌≡◌, ℕ, [], length}
use Rattle.hz_bound.specs.Rows.{row_at}
use Rattle.hz_bound.proofs.rows.no_rows.Given as goal

abbrev pub invariant-loop-row : goal.invariant-loop-row
invariant-loop-row l = record {
  size : length l.rows.items ≡ l._row;
  none : (i : ℕ) → row_at l.rows.items i ≡ [];
}
