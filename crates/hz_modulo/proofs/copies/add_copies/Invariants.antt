use Rattle.std.proofs.Common.{◌≡◌, ◌++◌, map, take}
use Rattle.hz_rtl.specs.Shape.{instruction}
use Rattle.hz_modulo.proofs.copies.add_copies.Given as goal

abbrev pub invariant-loop-insn : goal.invariant-loop-insn
invariant-loop-insn l = map instruction l.insns.items ≡ map instruction l.fn.insns.items ++ map instruction (take l.insn-index l.from)
