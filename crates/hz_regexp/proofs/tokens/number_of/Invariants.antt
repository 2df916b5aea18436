use Rattle.std.proofs.Common.{◌≡◌, true, min, take}
use Rattle.std.specs.Char.{is_ascii_digit}
use Rattle.std.specs.List.{list_all}
use Rattle.hz_base_model.specs.Lines.{number_from}
use Rattle.hz_regexp.proofs.tokens.number_of.Given as goal

-- the bytes so far are digits, and they spell the number
abbrev pub invariant-loop-b : goal.invariant-loop-b
invariant-loop-b l = record {
  digits : list_all is_ascii_digit (take l.b-index l.bytes) ≡ true;
  number : l.number ≡ min 65536 (number_from 0 (take l.b-index l.bytes));
}
