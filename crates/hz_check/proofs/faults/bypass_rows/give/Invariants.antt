use Rattle.std.proofs.Common.{◌≡◌, ℕ, ◌==◌, length, drop, Some}
use Rattle.std.specs.Prelude.{if◌then◌else◌}
use Rattle.std.specs.List.{list_any}
use Rattle.hz_checked.specs.NumberRows.{given_in}
use Rattle.hz_check.proofs.faults.bypass_rows.give.Given as goal

abbrev pub invariant-loop-class : goal.invariant-loop-class
invariant-loop-class l = record {
  size : length l.row ≡ length l.initial.row;
  given : (i : ℕ) → (if list_any (λ j. j == i) (drop l.class-index l.ins) then Some l.number else given_in l.row i) ≡ (if list_any (λ j. j == i) l.ins then Some l.number else given_in l.initial.row i);
}
