use Rattle.std.proofs.Common.{sym, ap, ◌∙◌, subst}
use Rattle.hz_answer_model.specs.FaultTexts.{class_line}
use Rattle.hz_front_model.specs.Phases.{Says}
use Rattle.hz_depend.specs.Faults.{fault as fault_of, classes_in}
use Rattle.hz_rtl.specs.Shape.{instruction}
use Rattle.hz_tool.proofs.BlockRefusals.{ambiguous_judged, class_reported, classes_reported}
use Rattle.hz_front.specs.Refusals.{Agrees, IsJudged}
use Rattle.hz_tool.proofs.phases.blocks.refuse_class.Goals as goal

pub returns-in-Some-clause-kind : goal.returns-in-Some-clause-kind
returns-in-Some-clause-kind c = subst IsJudged (sym c.refuse_ambiguous.ensures) (ambiguous_judged c.args.file c.args.insn.now c.word.result c.two_names.result)

pub returns-in-Some-clause-answer : goal.returns-in-Some-clause-answer
returns-in-Some-clause-answer c =
    subst (Agrees (Says 2 (class_line c.args.file.now c.args.machine.now.classes.items (instruction c.args.insn.now) (fault_of c.args.fault)))) (sym c.refuse_ambiguous.ensures)
    (classes_reported c.args.file c.args.machine.now.classes.items c.args.insn.now c.word.result (fault_of c.args.fault) c.word.ensures _ _ c.two_names.result
    (ap classes_in (sym c.in-Some.is) ∙ c.classes.ensures) c.two_names.ensures)

pub returns-in-None-clause-answer : goal.returns-in-None-clause-answer
returns-in-None-clause-answer c =
    subst (Agrees (Says 2 (class_line c.args.file.now c.args.machine.now.classes.items (instruction c.args.insn.now) (fault_of c.args.fault)))) (sym c.refuse_insn.ensures)
    (class_reported c.args.file c.args.machine.now.classes.items c.args.insn.now c.word-in-None.result (fault_of c.args.fault) c.word-in-None.ensures (classes_in c.classes.result) (ap classes_in c.in-None.is) c.classes.ensures)
