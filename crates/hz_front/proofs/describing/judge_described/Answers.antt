use Rattle.std.proofs.Common.{◌<◌, List, IsTrue, inl, inr, sym, subst}
use Rattle.std.specs.Prelude.{IfOk, IfErr}
use Rattle.hz_check.specs.Checked.{IsCheckedOf}
use Rattle.hz_description_model.proofs.Reading.FormSizes.{forms_few, strings_short}
use Rattle.hz_description_model.specs.Reading.DescriptionForms.{form_count, strings_below, Reads}
use Rattle.hz_description_model.specs.Reading.Descriptions.{Description}
use Rattle.hz_sexp.specs.Shape.{trees}
use Rattle.hz_sexp.specs.declared.form.Form.{Form}
use Rattle.hz_front.specs.Fronts.{TellsSaid}
use Rattle.hz_front.proofs.AnswerLemmas.{if_ok, if_err}
use Rattle.hz_front.proofs.describing.judge_described.Goals as goal

pub judge_said-requires-clause-count : goal.judge_said-requires-clause-count
judge_said-requires-clause-count c =
    subst (λ (fs : List Form). form_count (trees fs) < 4294967296) (sym c.deref.ensures.value) (forms_few c.args.text.now (trees c.in-Ok.read.items) 4294967296 c.in-Ok.ensures.ok c.requires)

pub judge_said-requires-clause-strings : goal.judge_said-requires-clause-strings
judge_said-requires-clause-strings c =
    subst (λ (fs : List Form). IsTrue (strings_below 4294967296 (trees fs))) (sym c.deref.ensures.value) (strings_short 4294967296 c.args.text.now (trees c.in-Ok.read.items) c.in-Ok.ensures.ok c.requires)

pub returns-in-Ok-clause-ok : goal.returns-in-Ok-clause-ok
returns-in-Ok-clause-ok c =
    let reported = subst (λ (fs : List Form). IfOk c.judge_said.result (λ checked. (d : Description) × Reads (trees fs) d × IsCheckedOf d checked)) c.deref.ensures.value c.judge_said.ensures.ok in
    if_ok (λ checked (d, says, is). record { read = trees c.in-Ok.read.items; d = d; forms = c.in-Ok.ensures.ok; says = says; is = is }) c.judge_said.result reported

pub returns-in-Ok-clause-err : goal.returns-in-Ok-clause-err
returns-in-Ok-clause-err c =
    let reported = subst (λ (fs : List Form). IfErr c.judge_said.result (TellsSaid c.args.file.now (trees fs))) c.deref.ensures.value c.judge_said.ensures.err in
    if_err (λ reported h. inr (trees c.in-Ok.read.items, c.in-Ok.ensures.ok, h)) c.judge_said.result reported

pub returns-in-Err-clause-err : goal.returns-in-Err-clause-err
returns-in-Err-clause-err c = inl c.in-Err.ensures.err
