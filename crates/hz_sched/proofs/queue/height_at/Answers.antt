use Rattle.hz_sched.proofs.BoardLemmas.{height_of_node}
use Rattle.hz_sched.proofs.queue.height_at.Goals as goal

pub returns : goal.returns
returns c = height_of_node c.args.graph.now.insns.items c.args.place c.index-insn.result.now c.requires c.index-insn.ensures
