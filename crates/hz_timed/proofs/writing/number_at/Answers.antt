use Rattle.hz_timed.proofs.WritingLemmas.{number_is}
use Rattle.hz_timed.proofs.writing.number_at.Goals as goal

pub returns : goal.returns
returns c = number_is c.args.block.now.insns.items c.args.place c.index-insn.result.now c.requires c.index-insn.ensures
