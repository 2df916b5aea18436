use Rattle.std.proofs.Common.{◌≡◌, ℕ, ◌+◌, ◌-◌, ◌*◌, ◌<◌, min, take, length, get_or, ap, sym, ◌∙◌, arith}
use Rattle.std.specs.Char.{is_ascii_digit}
use Rattle.std.proofs.lemmas.List.{take_more}
use Rattle.std.proofs.lemmas.List.Folds.{list_all_more}
use Rattle.hz_base_model.specs.Lines.{number_from}
use Rattle.hz_base_model.proofs.LineLaws.{number_from_more}
use Rattle.hz_tool_words.specs.Numbers.{capped}
use Rattle.hz_tool_words.proofs.numbers.number_of.Goals as goal

-- a number that is cut while its digits are read is the number cut at the end
capped_step : (a d : ℕ) → min (capped a * 10 + d) 4294967296 ≡ capped (a * 10 + d)
capped_step a d = omega arith

pub loop-digit-preserved : goal.loop-digit-preserved
loop-digit-preserved c =
    let xs = c.args.digits.now in
    let i = c.loop-digit.digit-index in
    let inside : i < length xs = omega arith in
    let more = list_all_more is_ascii_digit xs i 0 inside in
    let value = ap (number_from 0) (take_more xs i 0 inside) ∙ number_from_more 0 (take i xs) (get_or xs i 0) in
    record {
      digits = more ∙ rw (c.loop-digit.invariant.digits) (sym c.is_ascii_digit.ensures.value ∙ c.if-not-is_ascii_digit.false);
      value = c.min-value.ensures ∙ rw (c.from.ensures, c.loop-digit.invariant.value, value) (capped_step (number_from 0 (take i xs)) (get_or xs i 0 - 48));
    }
