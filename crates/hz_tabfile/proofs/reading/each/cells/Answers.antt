use Rattle.std.proofs.Common.{ℕ, subst, length, sym, ap, ◌∙◌}
use Rattle.std.proofs.lemmas.Result.{err_from_is_err_and}
use Rattle.hz_tabtext_model.specs.Lines.{entries_of}
use Rattle.hz_tabfile.specs.Judged.{Refuses}
use Rattle.hz_tabfile.specs.Lines.{cell_in}
use Rattle.hz_tabfile.specs.Cutting.{fields_in}
use Rattle.hz_tabfile.proofs.Each.{beyond, left_after, cells_go, cells_stop, cells_end}
use Rattle.hz_tabfile.proofs.reading.each.cells.Goals as goal

pub returns-in_err-entry : goal.returns-in_err-entry
returns-in_err-entry c =
    let p = err_from_is_err_and c.from_residual.result c.from_residual.ensures.1 in
    let long = c.len.ensures ∙ c.loop-rest.row.ok.0 in
    let wrong = subst (λ (n : ℕ). Refuses c.in_err-entry.field-0.0 (cell_in c.args.size.columns c.args.size.asks c.args.size.states c.args.number n c.cut.result.0.now)) long c.in_err-entry.ensures in
    rw (p.1, p.2) (cells_stop c.args.size.states c.args.number c.args.size.columns c.args.size.asks c.loop-rest.row.items c.loop-rest.rest (entries_of c.args.size.columns c.args.size.asks c.args.size.states c.args.number (fields_in c.args.fields)) c.loop-rest.invariant c.in-Some.text c.cut.result.0.now (fields_in c.cut.result.1) c.in-Some.is c.cut.ensures.pieces c.in_err-entry.field-0.0 wrong)

pub loop-rest-preserved : goal.loop-rest-preserved
loop-rest-preserved c =
    let long = c.len.ensures ∙ c.loop-rest.row.ok.0 in
    ap (λ row. beyond row (left_after c.args.size.states c.args.number c.args.size.columns c.args.size.asks (length row) (fields_in c.cut.result.1))) c.in_ok-push.ensures.items
    ∙ cells_go c.args.size.states c.args.number c.args.size.columns c.args.size.asks c.loop-rest.row.items c.loop-rest.rest (entries_of c.args.size.columns c.args.size.asks c.args.size.states c.args.number (fields_in c.args.fields)) c.loop-rest.invariant c.in-Some.text c.cut.result.0.now (fields_in c.cut.result.1) c.in-Some.is c.cut.ensures.pieces c.in_ok-entry.entry (sym (ap (λ (n : ℕ). cell_in c.args.size.columns c.args.size.asks c.args.size.states c.args.number n c.cut.result.0.now) long) ∙ c.in_ok-entry.ensures)

pub returns : goal.returns
returns c = cells_end c.args.size.states c.args.number c.args.size.columns c.args.size.asks c.loop-rest.row.items c.loop-rest.rest (entries_of c.args.size.columns c.args.size.asks c.args.size.states c.args.number (fields_in c.args.fields)) c.loop-rest.invariant c.in_default.is
