use Rattle.hz_sexp.proofs.Digits.{plain_value, above_range}
use Rattle.hz_sexp.proofs.word.above_zero.Goals as goal

pub returns-in-None : goal.returns-in-None
returns-in-None c = (_, plain_value c.args.digits.now c.requires, above_range _ c.in-None.ensures)
