use Rattle.hz_sexp.proofs.StepLemmas.{comment_step, comment_open}
use Rattle.hz_sexp.proofs.step.comment.Goals as goal

pub returns-in-Some-clause-ok : goal.returns-in-Some-clause-ok
returns-in-Some-clause-ok c = comment_step _ _ c.args.place.rest.now _ c.requires (rw (c.along.ensures.line, c.along.ensures.rest) at c.in-Some.ensures.found)

pub returns-in-None-clause-err : goal.returns-in-None-clause-err
returns-in-None-clause-err c = comment_open c.args.place.line _ c.args.place.rest.now c.requires (rw (c.along.ensures.line, c.along.ensures.rest) at c.in-None.ensures.none.1)
