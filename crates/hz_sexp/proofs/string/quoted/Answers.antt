use Rattle.std.proofs.lemmas.List.{append-nil}
use Rattle.std.proofs.lemmas.Result.{err_from_is_err_and}
use Rattle.hz_base_model.specs.Forms.Forms.{Inside}
use Rattle.hz_sexp.proofs.Parts.{inside_on, wrong_before}
use Rattle.hz_sexp.proofs.string.quoted.Goals as goal

pub loop-bytes-init : goal.loop-bytes-init
loop-bytes-init c = rw c.new-bytes.ensures.items Inside.stays

pub returns-in_err-after-clause-err : goal.returns-in_err-after-clause-err
returns-in_err-after-clause-err c = let p = err_from_is_err_and c.from_residual.result c.from_residual.ensures.1 in
    rw (p.1, p.2) (wrong_before c.args.start c.loop-bytes.invariant _ c.in_err-after.ensures.err)

pub loop-bytes-preserved-in-Byte : goal.loop-bytes-preserved-in-Byte
loop-bytes-preserved-in-Byte c = let part = rw c.in-Byte.is at c.in_ok-after.ensures.ok in
    rw c.in_ok-push-in-Byte.ensures.items (inside_on c.loop-bytes.invariant part.0)

pub loop-bytes-preserved : goal.loop-bytes-preserved
loop-bytes-preserved c = let part = rw c.in-Nothing.is at c.in_ok-after.ensures.ok in
    rw append-nil at (inside_on c.loop-bytes.invariant part.0)
