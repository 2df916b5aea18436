use Rattle.std.proofs.Common.{arith}
use Rattle.std.proofs.lemmas.Result.{err_from_is_err_and}
use Rattle.hz_mdread.proofs.FormLemmas.{string_at}
use Rattle.hz_mdread.proofs.ClassLemmas.{class_is, class_fails}
use Rattle.hz_mdread.proofs.forms.class_form.Goals as goal

pub class_with-requires : goal.class_with-requires
class_with-requires c = string_at _ c.args.operands.now 3 c.regexp-item.result c.requires (omega arith) c.regexp-item.is

pub returns-in_err-head-clause-err : goal.returns-in_err-head-clause-err
returns-in_err-head-clause-err c =
    let p = err_from_is_err_and c.from_residual.result c.from_residual.ensures.1 in
    rw (p.1, p.2) (class_fails c.args.place.line c.args.place.form c.args.operands.now c.name-item.result c.latency-item.result c.condition-item.result c.regexp-item.result c.in_err-head.field-0.0 (omega arith) c.name-item.is c.latency-item.is c.condition-item.is c.regexp-item.is c.in_err-head.ensures.err)

pub returns-clause-ok : goal.returns-clause-ok
returns-clause-ok c = rw (class_is c.args.place.line c.args.place.form c.args.operands.now c.name-item.result c.latency-item.result c.condition-item.result c.regexp-item.result (omega arith) c.name-item.is c.latency-item.is c.condition-item.is c.regexp-item.is, c.in_ok-head.ensures.ok) c.class_with.ensures.ok

pub returns-clause-err : goal.returns-clause-err
returns-clause-err c = rw (class_is c.args.place.line c.args.place.form c.args.operands.now c.name-item.result c.latency-item.result c.condition-item.result c.regexp-item.result (omega arith) c.name-item.is c.latency-item.is c.condition-item.is c.regexp-item.is, c.in_ok-head.ensures.ok) c.class_with.ensures.err
