use Rattle.std.proofs.Common.{ℕ, ◌<◌, get_or}
use Rattle.hz_grid.specs.Rows.{IsWithin}
use Rattle.hz_unitsets.proofs.row_rules.joined.Given as goal

abbrev pub invariant-loop-other : goal.invariant-loop-other
invariant-loop-other l = record {
  units : IsWithin l.fn.units l.all;
  others : (k d : ℕ) → k < l.other-index → IsWithin (get_or l.others k d) l.all;
}
