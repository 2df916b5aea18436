use Rattle.std.proofs.Common.{◌≡◌, ℕ, [], get_or, vec_len}
use Rattle.hz_checked.specs.NumberRows.{rows_of}
use Rattle.hz_check.proofs.faults.bypass_rows.no_rows.Given as goal

abbrev pub invariant-loop : goal.invariant-loop
invariant-loop l = record {
  len : vec_len l.rows ≡ l.counter;
  none : (out : ℕ) → get_or (rows_of l.rows.items) out [] ≡ [];
}
