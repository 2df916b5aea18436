use Rattle.std.proofs.lemmas.Result.{err_from_is_err_and}
use Rattle.hz_tabfile.specs.Cutting.{fields_in}
use Rattle.hz_tabfile.specs.Lines.{cycles_in}
use Rattle.hz_tabfile.proofs.Each.{cycles_go, cycles_stop, cycles_end}
use Rattle.hz_tabfile.proofs.reading.each.cycles.Goals as goal

pub returns-in_err-cycle : goal.returns-in_err-cycle
returns-in_err-cycle c =
    let p = err_from_is_err_and c.from_residual.result c.from_residual.ensures.1 in
    rw (p.1, p.2) (cycles_stop c.loop-rest.rest (cycles_in (fields_in c.args.fields)) c.loop-rest.invariant c.in-Some.text c.cut.result.0.now (fields_in c.cut.result.1) c.in-Some.is c.cut.ensures.pieces c.in_err-cycle.field-0.0 c.in_err-cycle.ensures)

pub loop-rest-preserved : goal.loop-rest-preserved
loop-rest-preserved c = cycles_go c.loop-rest.rest (cycles_in (fields_in c.args.fields)) c.loop-rest.invariant c.in-Some.text c.cut.result.0.now (fields_in c.cut.result.1) c.in-Some.is c.cut.ensures.pieces c.in_ok-cycle.field-0 c.in_ok-cycle.ensures

pub returns : goal.returns
returns c = cycles_end c.loop-rest.rest (cycles_in (fields_in c.args.fields)) c.loop-rest.invariant c.in_default.is
