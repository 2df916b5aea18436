use Rattle.std.proofs.Common.{ap, ◌∙◌}
use Rattle.std.proofs.lemmas.Result.{err_from_is_err_and}
use Rattle.hz_tabtext_model.specs.Judging.{each_by}
use Rattle.hz_tabtext_model.specs.Fields.{number_below}
use Rattle.hz_tabfile.specs.Cutting.{fields_in}
use Rattle.hz_tabfile.proofs.Each.{beyond, each_goes, each_stops, each_ends}
use Rattle.hz_tabfile.proofs.reading.each.numbers_below.Goals as goal

pub returns-in_err-number : goal.returns-in_err-number
returns-in_err-number c =
    let p = err_from_is_err_and c.from_residual.result c.from_residual.ensures.1 in
    rw (p.1, p.2) (each_stops (number_below c.args.limit) c.loop-rest.numbers.items c.loop-rest.rest (each_by (number_below c.args.limit) (fields_in c.args.fields)) c.loop-rest.invariant c.in-Some.text c.cut.result.0.now (fields_in c.cut.result.1) c.in-Some.is c.cut.ensures.pieces c.in_err-number.field-0.0 c.in_err-number.ensures)

pub loop-rest-preserved : goal.loop-rest-preserved
loop-rest-preserved c =
    ap (λ ns. beyond ns (each_by (number_below c.args.limit) (fields_in c.cut.result.1))) c.in_ok-push.ensures.items
    ∙ each_goes (number_below c.args.limit) c.loop-rest.numbers.items c.loop-rest.rest (each_by (number_below c.args.limit) (fields_in c.args.fields)) c.loop-rest.invariant c.in-Some.text c.cut.result.0.now (fields_in c.cut.result.1) c.in-Some.is c.cut.ensures.pieces c.in_ok-number.number c.in_ok-number.ensures

pub returns : goal.returns
returns c = each_ends (number_below c.args.limit) c.loop-rest.numbers.items c.loop-rest.rest (each_by (number_below c.args.limit) (fields_in c.args.fields)) c.loop-rest.invariant c.in_default.is
