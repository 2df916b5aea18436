use Rattle.std.proofs.Common.{ℕ, List, [], sym, ap, ◌∙◌}
use Rattle.std.proofs.lemmas.Result.{err_from_is_err_and}
use Rattle.hz_tabtext_model.specs.Reading.{classes_at}
use Rattle.hz_tabfile.specs.Rests.{left_of}
use Rattle.hz_tabfile.proofs.Many.{classes_go, classes_stop, classes_end}
use Rattle.hz_tabfile.proofs.Reported.{placed}
use Rattle.hz_tabfile.proofs.reading.text.names_at.Goals as goal

pub returns-in_err-rest : goal.returns-in_err-rest
returns-in_err-rest c =
    let p = err_from_is_err_and c.from_residual.result c.from_residual.ensures.1 in
    rw (p.1, p.2) (classes_stop c.loop.names.keys c.args.count c.loop.counter (left_of c.loop.rest) (classes_at c.args.count [] (left_of c.args.rest)) c.loop.invariant c.in_err-rest.field-0.0 c.loop-test.true c.in_err-rest.ensures)

pub loop-preserved : goal.loop-preserved
loop-preserved c = classes_go c.loop.names.keys c.args.count c.loop.counter (left_of c.loop.rest) (classes_at c.args.count [] (left_of c.args.rest)) c.loop.invariant c.class_at.new.names.keys (left_of c.in_ok-rest.rest) c.loop-test.true c.in_ok-rest.ensures

pub returns : goal.returns
returns c =
    classes_end c.loop.names.keys c.args.count c.loop.counter (left_of c.loop.rest) (classes_at c.args.count [] (left_of c.args.rest)) c.loop.invariant c.loop-test.false
    ∙ ap (λ (names : List (List ℕ)). placed (left_of c.loop.rest) names) (sym c.in_ok-names.ensures)
