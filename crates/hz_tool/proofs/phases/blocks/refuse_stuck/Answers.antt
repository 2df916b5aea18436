use Rattle.std.proofs.Common.{length, sym, subst}
use Rattle.hz_tool.proofs.BlockRefusals.{place_within, word_reported, memory_reported}
use Rattle.hz_tool.specs.Refusing.{TellsStuck}
use Rattle.hz_tool.proofs.phases.blocks.refuse_stuck.Goals as goal

pub insn_at-requires : goal.insn_at-requires
insn_at-requires c = place_within (length c.args.block.now.insns.items) c.args.fault _ _ c.in-Some.is c.reported.ensures c.requires

pub returns-in-Some-clause-answer : goal.returns-in-Some-clause-answer
returns-in-Some-clause-answer c =
    subst (TellsStuck c.args.file c.args.block.now.insns.items c.args.fault) (sym c.refuse_insn.ensures)
    (word_reported c.args.file c.args.block.now.insns.items c.args.fault _ _ c.insn_at.result.now c.in-Some.is c.reported.ensures c.insn_at.ensures)

pub returns-in-None-clause-answer : goal.returns-in-None-clause-answer
returns-in-None-clause-answer c = memory_reported c.args.file c.args.block.now.insns.items c.args.fault _ c.in-None.is c.reported.ensures
