use Rattle.std.proofs.Common.{take}
use Rattle.hz_unitsets.proofs.Distinct.{AreRulesOf}
use Rattle.hz_unitsets.proofs.rules.distinct.Given as goal

abbrev pub invariant-loop-set : goal.invariant-loop-set
invariant-loop-set l = AreRulesOf (take l.set-index l.sets) l.rules.keys
