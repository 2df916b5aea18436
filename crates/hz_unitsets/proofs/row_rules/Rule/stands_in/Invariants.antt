use Rattle.std.proofs.Common.{ℕ, ◌<◌}
use Rattle.hz_unitsets.specs.RowRules.{statement_in, StandsAt}
use Rattle.hz_unitsets.proofs.row_rules.Rule.stands_in.Given as goal

-- in no cycle so far it stands
abbrev pub invariant-loop-cycle : goal.invariant-loop-cycle
invariant-loop-cycle l = (k : ℕ) → k < l.cycle → StandsAt (statement_in l.self) l.source k → ⊥
