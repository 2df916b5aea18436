use Rattle.std.proofs.Common.{refl}
use Rattle.std.proofs.lemmas.Result.{err_from_is_err_and, IfErr-weaker}
use Rattle.hz_base_model.specs.Forms.Forms.{Reading, FaultAt}
use Rattle.hz_base_model.proofs.Forms.FormsFront.{front_skip, step_shorter}
use Rattle.hz_sexp.specs.Faults.{Tells}
use Rattle.hz_sexp.specs.State.{IsOpen}
use Rattle.hz_sexp.proofs.ReaderLemmas.{open_at_end, front_takes, front_wrong, refused_wrong}
use Rattle.hz_sexp.proofs.reader.read_forms.Goals as goal

pub loop-b-init : goal.loop-b-init
loop-b-init c = rw (c.new-reader.ensures.open, c.new-reader.ensures.forms, c.start-place.ensures.rest, c.start-place.ensures.line) (record { reading = Reading.stops; nests = refl })

pub returns-in_err-take-clause-faults : goal.returns-in_err-take-clause-faults
returns-in_err-take-clause-faults c = let p = err_from_is_err_and c.from_residual-in_err-take.result c.from_residual-in_err-take.ensures.1 in
    let step = rw c.in-Some-token.is at c.in_ok-token.ensures.ok in
    rw (p.1, p.2) (front_wrong c.loop-b.reader c.loop-b.invariant _ (refused_wrong c.loop-b.reader c.in-Some-token.token step _ c.in_err-take.ensures.err))

pub loop-b-smaller-in_ok-take : goal.loop-b-smaller-in_ok-take
loop-b-smaller-in_ok-take c = step_shorter c.in_ok-token.ensures.ok

pub loop-b-preserved-in_ok-take : goal.loop-b-preserved-in_ok-take
loop-b-preserved-in_ok-take c = let step = rw c.in-Some-token.is at c.in_ok-token.ensures.ok in
    front_takes c.loop-b.reader c.take.new.self c.loop-b.invariant step c.in_ok-take.ensures.ok

pub loop-b-smaller : goal.loop-b-smaller
loop-b-smaller c = step_shorter c.in_ok-token.ensures.ok

pub loop-b-preserved : goal.loop-b-preserved
loop-b-preserved c = front_skip _ _ c.loop-b.invariant (rw c.in_default-token.is at c.in_ok-token.ensures.ok)

pub returns-clause-faults : goal.returns-clause-faults
returns-clause-faults c = let end = rw c.in_default.ensures at c.loop-b.invariant in
    IfErr-weaker c.finish.result (Tells (IsOpen c.loop-b.reader)) (Tells (FaultAt c.args.bytes.now))
    (λ e reported. front_wrong c.loop-b.reader end e (open_at_end c.loop-b.reader c.loop-b.place.line e reported)) c.finish.ensures.err
