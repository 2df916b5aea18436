use Rattle.std.proofs.lemmas.Result.{err_from_is_err_and}
use Rattle.hz_sexp.specs.Shape.{tree}
use Rattle.hz_mdread.proofs.ReadingLemmas.{expression_read, expression_wrong}
use Rattle.hz_mdread.proofs.operands.expression_in.Goals as goal

pub returns-in_err-expr-clause-err : goal.returns-in_err-expr-clause-err
returns-in_err-expr-clause-err c =
    let p = err_from_is_err_and c.from_residual.result c.from_residual.ensures.1 in
    rw (p.1, p.2) (expression_wrong (tree c.args.form.now) c.in-Some.bytes.now _ c.in-Some.ensures c.in_err-expr.ensures.faults)

pub returns-clause-ok : goal.returns-clause-ok
returns-clause-ok c = expression_read (tree c.args.form.now) c.in-Some.bytes.now _ c.in-Some.ensures c.in_ok-expr.ensures.reads
