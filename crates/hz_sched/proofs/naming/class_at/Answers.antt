use Rattle.hz_sched.proofs.NamingLemmas.{class_of_node}
use Rattle.hz_sched.proofs.naming.class_at.Goals as goal

pub returns : goal.returns
returns c = class_of_node c.args.graph.now.insns.items c.args.place c.index-insn.result.now c.requires c.index-insn.ensures
