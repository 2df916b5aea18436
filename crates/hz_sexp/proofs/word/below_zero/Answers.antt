use Rattle.std.proofs.Common.{arith}
use Rattle.std.specs.Str.Parse.{digits_value}
use Rattle.hz_sexp.proofs.Digits.{minus_value, below_range}
use Rattle.hz_sexp.proofs.word.below_zero.Goals as goal

pub returns-in_default : goal.returns-in_default
returns-in_default c = (_, minus_value c.args.digits.now c.requires, below_range (digits_value 10 c.args.digits.now) (omega (arith, c.in_default.ensures)))

pub returns-else-value : goal.returns-else-value
returns-else-value c = (_, minus_value c.args.digits.now c.requires, below_range (digits_value 10 c.args.digits.now) (omega (arith, c.in-Some.ensures)))
