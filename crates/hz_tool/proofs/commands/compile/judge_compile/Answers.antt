use Rattle.std.proofs.Common.{Ok}
use Rattle.hz_answer_model.specs.TableAnswers.{WritesTablesOf}
use Rattle.hz_tabfile.proofs.Sayable.{compiled_is_sayable}
use Rattle.hz_tool.proofs.CommandLemmas.{decided_then, uncompiled}
use Rattle.hz_tool.proofs.TablesLemmas.{tables_reported}
use Rattle.hz_tool.specs.declared.done.Done.TheVariants.{Tables}
use Rattle.hz_tool.proofs.commands.compile.judge_compile.Goals as goal

pub returns-in_err-front : goal.returns-in_err-front
returns-in_err-front c =
    let order = c.args.order.now in
    uncompiled order.description.now c.args.described.now WritesTablesOf c.from_residual.result c.in_err-front.field-0.0 c.from_residual.ensures.1 c.in_err-front.ensures

pub text_stands-requires : goal.text_stands-requires
text_stands-requires c =
    let by = c.in_ok-front.ensures.compiled in
    record { sayable = compiled_is_sayable c.in_ok-front.front.compiled c.in_ok-front.front.checked by.compiled by.options }

pub returns : goal.returns
returns c =
    let order = c.args.order.now in
    let front = c.in_ok-front.front in
    let is = c.in_ok-front.ensures in
    let d = is.checked.d in
    decided_then order.description.now c.args.described.now WritesTablesOf front is (WritesTablesOf d is.checked.is.known) (λ s t h. h)
    (Ok (Tables front.compiled front.checked))
    (compiled_is_sayable front.compiled front.checked is.compiled.compiled is.compiled.options, tables_reported d front.checked is.checked.is front.compiled is.compiled c.text_stands.ensures.listed c.text_stands.ensures.stands)
