use Rattle.std.proofs.Common.{◌≡◌, map, take}
use Rattle.hz_modulo.proofs.kernels.classes_of.Given as goal

abbrev pub invariant-loop-insn : goal.invariant-loop-insn
invariant-loop-insn l = l.classes.items ≡ map (λ i. i.class) (take l.insn-index l.insns)
