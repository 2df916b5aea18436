use Rattle.std.proofs.Common.{◌≡◌, true, take}
use Rattle.std.specs.Char.{is_ascii_digit}
use Rattle.std.specs.List.{list_all}
use Rattle.hz_base_model.specs.Lines.{number_from}
use Rattle.hz_tool_words.specs.Numbers.{capped}
use Rattle.hz_tool_words.proofs.numbers.number_of.Given as goal

-- the digits so far, and their number
abbrev pub invariant-loop-digit : goal.invariant-loop-digit
invariant-loop-digit l = record {
  digits : list_all is_ascii_digit (take l.digit-index l.digits) ≡ true;
  value : l.value ≡ capped (number_from 0 (take l.digit-index l.digits));
}
