use Rattle.std.proofs.Common.{arith, ◌≡◌, length}
use Rattle.std.proofs.Math.Seq.{take-length}
use Rattle.hz_sexp.proofs.Digits.{value_more}
use Rattle.hz_sexp.proofs.word.magnitude.Goals as goal

pub returns-in_err-checked_mul : goal.returns-in_err-checked_mul
returns-in_err-checked_mul c = let more = value_more c.args.digits.now c.loop-digit.digit-index c.requires (omega arith) in
    rw c.from_residual.ensures (λ h. c.in_err-checked_mul.ensures (omega (arith, c.loop-digit.invariant.value)))

pub returns-in_err-value : goal.returns-in_err-value
returns-in_err-value c = let more = value_more c.args.digits.now c.loop-digit.digit-index c.requires (omega arith) in
    rw c.from_residual-in_err-value.ensures (λ h. c.in_err-value.ensures (omega (arith, c.loop-digit.invariant.value, c.in_ok-checked_mul.ensures)))

pub loop-digit-preserved : goal.loop-digit-preserved
loop-digit-preserved c = let more = value_more c.args.digits.now c.loop-digit.digit-index c.requires (omega arith) in
    record {
      value = omega (arith, c.loop-digit.invariant.value, c.in_ok-checked_mul.ensures, c.in_ok-value.ensures);
      fits = omega (arith, c.in_ok-value.ensures);
    }

pub returns : goal.returns
returns c = let all : c.loop-digit.digit-index ≡ length c.args.digits.now = omega arith in
    let same = rw (all, take-length) at c.loop-digit.invariant.value in (omega (arith, same, c.loop-digit.invariant.fits), same)
