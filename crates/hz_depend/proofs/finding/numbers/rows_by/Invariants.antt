use Rattle.std.proofs.Common.{◌≡◌, ℕ, drop, filter, map, vec_len}
use Rattle.hz_checked.specs.NumberRows.{rows_of, number_at}
use Rattle.hz_checked.specs.Shape.{bypass_of}
use Rattle.hz_block_model.specs.Dependences.Classes.{bypass_between}
use Rattle.hz_depend.specs.Numbers.{has_guard}
use Rattle.hz_depend.proofs.finding.numbers.rows_by.Given as goal

-- the numbers of the bypasses from the turn on
abbrev pub invariant-loop-k : goal.invariant-loop-k
invariant-loop-k l = record {
  len : vec_len l.rows ≡ l.classes;
  numbers : (out into : ℕ) → number_at (rows_of l.rows.items) out into ≡ bypass_between (filter (has_guard l.guard) (map bypass_of (drop l.k l.bypasses))) out into;
}
