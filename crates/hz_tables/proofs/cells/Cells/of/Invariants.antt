use Rattle.std.proofs.Common.{◌≡◌, map, take}
use Rattle.hz_tables.specs.Widths.{number_of}
use Rattle.hz_tables.proofs.cells.Cells.of.Given as goal

abbrev pub invariant-loop-number : goal.invariant-loop-number
invariant-loop-number g l = map number_of l.cells.items ≡ take l.number-index l.numbers
