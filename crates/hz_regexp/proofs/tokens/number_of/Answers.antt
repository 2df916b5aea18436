use Rattle.std.proofs.Common.{◌∙◌, sym, arith}
use Rattle.std.specs.Char.{is_ascii_digit}
use Rattle.std.proofs.lemmas.List.Folds.{list_all_more}
use Rattle.hz_regexp.proofs.Words.{cut_digit}
use Rattle.hz_regexp.proofs.tokens.number_of.Goals as goal

pub loop-b-preserved : goal.loop-b-preserved
loop-b-preserved c = let bytes = c.args.bytes.now in let i = c.loop-b.b-index in record {
  digits = rw (list_all_more is_ascii_digit bytes i 0 (omega arith), c.loop-b.invariant.digits) (sym c.is_ascii_digit.ensures.value ∙ c.if-not-is_ascii_digit.false);
  number = rw (c.min-number.ensures, c.from.ensures) (cut_digit bytes i c.loop-b.number (omega arith) c.loop-b.invariant.number);
}
