use Rattle.std.proofs.Common.{ℕ, length, sym, ◌∙◌, subst, arith}
use Rattle.hz_depend.specs.GraphShape.{IsSchedulable}
use Rattle.hz_tool.proofs.BlockLemmas.{first_wrong, wrong_within, wrong_below}
use Rattle.hz_tool.proofs.BlockRefusals.{wrong_in, wrong_reported}
use Rattle.hz_tool.specs.Blocks.{IsFaultIn}
use Rattle.hz_tool.specs.Deciding.{Nothing}
use Rattle.hz_tool.proofs.phases.blocks.judge_graph.Goals as goal

pub returns-in-Ok-clause-schedulable : goal.returns-in-Ok-clause-schedulable
returns-in-Ok-clause-schedulable c = subst (λ (n : ℕ). IsSchedulable n c.in-Ok.graph) (sym c.requires.classes) c.in-Ok.ensures.schedulable

pub refuse_depend-requires : goal.refuse_depend-requires
refuse_depend-requires c =
    let checked = c.args.checked.now in
    let insns = c.args.block.now.insns.items in
    wrong_in (length c.args.machine.now.classes.items) (length insns) c.in-Err.fault
    (λ place e reported.
    let here = sym c.in-Err.ensures.fault ∙ reported in
    let low = wrong_within checked 0 insns place e here in
    (omega (arith, low), subst (λ (n : ℕ). IsFaultIn n e) (sym c.requires.classes) (wrong_below checked 0 insns place e here)))

pub returns-in-Err-clause-err : goal.returns-in-Err-clause-err
returns-in-Err-clause-err c = λ d is names.
    let checked = c.args.checked.now in
    let block = c.args.block.now in
    wrong_reported c.args.file d c.args.machine.now.classes.items block.insns.items Nothing c.in-Err.fault c.refuse_depend.result names
    (λ place e insn reported there. first_wrong d checked is block.insns.items place e insn (sym c.in-Err.ensures.fault ∙ reported) there)
    c.refuse_depend.ensures.answer
