use Rattle.std.proofs.Common.{◌≡◌, ℕ, ◌==◌, ◌&&◌, drop, Some, vec_len}
use Rattle.std.specs.Prelude.{if◌then◌else◌}
use Rattle.std.specs.List.{list_any}
use Rattle.hz_checked.specs.NumberRows.{rows_of, number_at}
use Rattle.hz_check.proofs.faults.bypass_rows.give_all.Given as goal

abbrev pub invariant-loop-out : goal.invariant-loop-out
invariant-loop-out l = record {
  len : vec_len l.rows ≡ vec_len l.initial.rows;
  numbers : (o i : ℕ) → (if list_any (λ p. p == o) (drop l.out-index l.outs) && list_any (λ j. j == i) l.ins then Some l.number else number_at (rows_of l.rows.items) o i)
      ≡ (if list_any (λ p. p == o) l.outs && list_any (λ j. j == i) l.ins then Some l.number else number_at (rows_of l.initial.rows.items) o i);
}
