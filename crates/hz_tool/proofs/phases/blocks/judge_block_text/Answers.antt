use Rattle.std.proofs.Common.{List, subst}
use Rattle.std.specs.Prelude.{IfOk, IfErr}
use Rattle.hz_answer_model.specs.BlockAnswers.{IsBlock}
use Rattle.hz_front_model.specs.Phases.{TellsFault}
use Rattle.hz_block_model.specs.Texts.BlockForms as blocks
use Rattle.hz_block_model.specs.Texts.Operands.{rtl_word}
use Rattle.hz_rtl.specs.Shape.{instructions}
use Rattle.hz_sexp.specs.Shape.{trees}
use Rattle.hz_sexp.specs.declared.form.Form.{Form}
use Rattle.hz_front.proofs.AnswerLemmas.{if_ok, if_err}
use Rattle.hz_front.proofs.JudgeLemmas.{forms_on, forms_refused}
use Rattle.hz_tool.proofs.DecideLemmas.{err_exit}
use Rattle.hz_tool.proofs.JudgeLemmas.{block_wrong}
use Rattle.hz_front.specs.Refusals.{Agrees, refused}
use Rattle.hz_tool.specs.Deciding.{Nothing}
use Rattle.hz_tool.proofs.phases.blocks.judge_block_text.Goals as goal

pub returns-clause-ok : goal.returns-clause-ok
returns-clause-ok c =
    let reported = subst (λ (fs : List Form). IfOk c.judge_block.result (λ block. blocks.Reads (trees fs) (instructions block))) c.deref.ensures.value c.judge_block.ensures.ok in
    if_ok (λ block says. record { read = trees c.in_ok-read.read.items; forms = c.in_ok-read.ensures.ok; says = says }) c.judge_block.result reported

pub returns-clause-err : goal.returns-clause-err
returns-clause-err c =
    let file = c.args.file.now in
    let read = trees c.in_ok-read.read.items in
    let reported = subst (λ (fs : List Form). IfErr c.judge_block.result (Agrees (TellsFault rtl_word (blocks.FaultAt (trees fs)) file))) c.deref.ensures.value c.judge_block.ensures.err in
    if_err (λ reported h. forms_on file c.args.text.now read (λ read. IsBlock file read (λ insns. Nothing)) (refused reported) c.in_ok-read.ensures.ok (block_wrong file read (λ insns. Nothing) reported h)) c.judge_block.result reported

pub returns-in_err-read-clause-kind : goal.returns-in_err-read-clause-kind
returns-in_err-read-clause-kind c = err_exit _ c.from_residual.result c.in_err-read.field-0.0 c.from_residual.ensures.1 c.in_err-read.ensures.kind

pub returns-in_err-read-clause-err : goal.returns-in_err-read-clause-err
returns-in_err-read-clause-err c =
    let refusal = c.in_err-read.field-0.0 in
    err_exit _ c.from_residual.result refusal c.from_residual.ensures.1 (forms_refused c.args.file.now c.args.text.now (λ read. IsBlock c.args.file.now read (λ insns. Nothing)) refusal c.in_err-read.ensures.err)
