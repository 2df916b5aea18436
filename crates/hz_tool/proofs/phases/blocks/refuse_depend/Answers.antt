use Rattle.std.proofs.Common.{length, sym, subst}
use Rattle.hz_depend.specs.declared.fault.DependFault.{DependFault}
use Rattle.hz_tool.specs.Blocks.{IsWrongIn}
use Rattle.hz_tool.specs.Refusing.{TellsDepend}
use Rattle.hz_tool.proofs.phases.blocks.refuse_depend.Goals as goal

pub insn_at-requires : goal.insn_at-requires
insn_at-requires c = (subst (IsWrongIn (length c.args.machine.now.classes.items) (length c.args.block.now.insns.items)) c.in-Class.is c.requires).0

pub refuse_class-requires : goal.refuse_class-requires
refuse_class-requires c = (subst (IsWrongIn (length c.args.machine.now.classes.items) (length c.args.block.now.insns.items)) c.in-Class.is c.requires).1

pub returns-in-Class-clause-answer : goal.returns-in-Class-clause-answer
returns-in-Class-clause-answer c =
    subst (λ (f : DependFault). TellsDepend c.args.file c.args.machine.now.classes.items c.args.block.now.insns.items f c.refuse_class.result) (sym c.in-Class.is)
    (c.insn_at.result.now, c.insn_at.ensures, c.refuse_class.ensures.answer)
