use Rattle.std.proofs.Common.{inl}
use Rattle.hz_unitsets.proofs.row_rules.Rule.forbidding.Goals as goal

pub returns-then-each_meets : goal.returns-then-each_meets
returns-then-each_meets c = inl (rw c.deref-2.ensures.value at (c.each_meets.ensures c.if-each_meets.true))
