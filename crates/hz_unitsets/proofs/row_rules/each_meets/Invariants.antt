use Rattle.std.proofs.Common.{ℕ, ◌<◌, get_or}
use Rattle.hz_unitsets.specs.RowRules.{HasKey}
use Rattle.hz_unitsets.proofs.row_rules.each_meets.Given as goal

abbrev pub invariant-loop-row : goal.invariant-loop-row
invariant-loop-row l = (k d : ℕ) → k < l.row-index → HasKey (get_or l.rows k d) l.keys
