use Rattle.std.proofs.Common.{sym, ◌∙◌}
use Rattle.std.proofs.lemmas.Result.{err_from_is_err_and}
use Rattle.hz_tabfile.specs.Rests.{left_of}
use Rattle.hz_tabfile.specs.Texts.{grids_read}
use Rattle.hz_tabfile.proofs.Many.{grids_go, grids_stop, grids_end}
use Rattle.hz_tabfile.proofs.reading.text.grids_at.Goals as goal

pub returns-in_err-rest : goal.returns-in_err-rest
returns-in_err-rest c =
    let p = err_from_is_err_and c.from_residual.result c.from_residual.ensures.1 in
    rw (p.1, p.2) (grids_stop (left_of c.loop-rest.rest) (grids_read (left_of c.args.rest)) c.loop-rest.invariant c.in_err-rest.field-0.0 (sym c.comes.ensures ∙ c.loop-rest-test.true) c.in_err-rest.ensures.judged)

pub loop-rest-preserved : goal.loop-rest-preserved
loop-rest-preserved c = grids_go (left_of c.loop-rest.rest) (grids_read (left_of c.args.rest)) c.loop-rest.invariant tt (left_of c.in_ok-rest.rest) (sym c.comes.ensures ∙ c.loop-rest-test.true) c.in_ok-rest.ensures.judged

pub returns : goal.returns
returns c = grids_end (left_of c.loop-rest.rest) (grids_read (left_of c.args.rest)) c.loop-rest.invariant (sym c.comes.ensures ∙ c.loop-rest-test.false)
