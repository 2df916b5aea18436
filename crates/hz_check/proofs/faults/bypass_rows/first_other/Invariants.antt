use Rattle.std.proofs.Common.{◌≡◌, drop, filter}
use Rattle.std.specs.List.{list_any}
use Rattle.hz_checked.specs.NumberRows.{rows_of, number_at, is_other}
use Rattle.hz_check.specs.Names.First.{first_of}
use Rattle.hz_check.proofs.faults.bypass_rows.first_other.Given as goal

abbrev pub invariant-loop-out : goal.invariant-loop-out
invariant-loop-out l =
    first_of (filter (λ o. list_any (λ i. is_other (number_at (rows_of l.rows) o i) l.number) l.ins) (drop l.out-index l.outs))
    ≡ first_of (filter (λ o. list_any (λ i. is_other (number_at (rows_of l.rows) o i) l.number) l.ins) l.outs)
