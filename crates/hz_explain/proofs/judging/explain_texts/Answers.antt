use Rattle.std.proofs.Common.{◌<◌, List, IsTrue, sym, subst}
use Rattle.hz_front_model.specs.Descriptions.{Checks, Describes}
use Rattle.hz_front_model.specs.Phases.{Next}
use Rattle.hz_base_model.specs.Forms.Trees.{Trees}
use Rattle.hz_description_model.proofs.Reading.FormSizes.{forms_few, strings_short}
use Rattle.hz_description_model.specs.Reading.DescriptionForms.{form_count, strings_below}
use Rattle.hz_sexp.specs.Shape.{trees}
use Rattle.hz_sexp.specs.declared.form.Form.{Form}
use Rattle.hz_front.proofs.JudgeLemmas.{forms_refused}
use Rattle.hz_why_model.specs.Answers.{ExplainsTrace}
use Rattle.hz_explain.specs.Deciding.{Answers, decided_in}
use Rattle.hz_front.proofs.JudgeLemmas.{forms_on}
use Rattle.hz_explain.proofs.judging.explain_texts.Goals as goal

pub explain_said-requires-clause-count : goal.explain_said-requires-clause-count
explain_said-requires-clause-count c =
    subst (λ (fs : List Form). form_count (trees fs) < 4294967296) (sym c.deref.ensures.value) (forms_few c.args.described.now (trees c.in-Ok.read.items) 4294967296 c.in-Ok.ensures.ok c.requires.described)

pub explain_said-requires-clause-strings : goal.explain_said-requires-clause-strings
explain_said-requires-clause-strings c =
    subst (λ (fs : List Form). IsTrue (strings_below 4294967296 (trees fs))) (sym c.deref.ensures.value) (strings_short 4294967296 c.args.described.now (trees c.in-Ok.read.items) c.in-Ok.ensures.ok c.requires.described)

pub returns-in-Ok-clause-answer : goal.returns-in-Ok-clause-answer
returns-in-Ok-clause-answer c =
    let says : Next Trees = λ read. Describes c.args.file.now read (λ d. Checks c.args.file.now d (ExplainsTrace c.args.trace.now c.args.traced.now d)) in
    forms_on c.args.file.now c.args.described.now (trees c.in-Ok.read.items) says (decided_in c.explain_said.result) c.in-Ok.ensures.ok
    (subst (λ (fs : List Form). Answers (says (trees fs)) c.explain_said.result) c.deref.ensures.value c.explain_said.ensures.answer)

pub returns-in-Err-clause-answer : goal.returns-in-Err-clause-answer
returns-in-Err-clause-answer c =
    forms_refused c.args.file.now c.args.described.now (λ read. Describes c.args.file.now read (λ d. Checks c.args.file.now d (ExplainsTrace c.args.trace.now c.args.traced.now d))) c.in-Err.refusal c.in-Err.ensures.err
