use Rattle.std.proofs.Common.{◌≡◌, true, take}
use Rattle.std.specs.Char.{is_ascii_digit}
use Rattle.std.specs.List.{list_all}
use Rattle.hz_base_model.specs.Lines.{number_from}
use Rattle.hz_tabfile.specs.Numbers.{capped}
use Rattle.hz_tabfile.proofs.reading.numbers.digits.Given as goal

abbrev pub invariant-loop-byte : goal.invariant-loop-byte
invariant-loop-byte l = record {
  digits : list_all is_ascii_digit (take l.byte-index l.field) ≡ true;
  value : l.value ≡ capped (number_from 0 (take l.byte-index l.field));
}
