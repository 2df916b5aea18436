use Rattle.std.proofs.Common.{rules}
use Rattle.hz_bound.proofs.ClassLemmas.{times_more}
use Rattle.hz_bound.proofs.loads.times_of.Goals as goal

pub loop-insn-preserved : goal.loop-insn-preserved
loop-insn-preserved c = times_more c.args.insns.now c.loop-insn.insn-index c.args.classes _ c.loop-insn.times.items c.index.result.now c.one_more.result c.loop-insn-test.true c.requires (search rules) c.one_more.ensures c.loop-insn.invariant
