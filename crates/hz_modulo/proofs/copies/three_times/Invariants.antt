use Rattle.std.proofs.Common.{◌≡◌, map}
use Rattle.std.specs.List.{repeat}
use Rattle.hz_rtl.specs.Shape.{instruction, instructions}
use Rattle.hz_modulo.proofs.copies.three_times.Given as goal

abbrev pub invariant-loop-turn : goal.invariant-loop-turn
invariant-loop-turn l = map instruction l.insns.items ≡ repeat l._turn (instructions l.block)
