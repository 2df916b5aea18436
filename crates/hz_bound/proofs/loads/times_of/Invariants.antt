use Rattle.std.proofs.Common.{map, take}
use Rattle.hz_bound.specs.Sums.{AreTimes}
use Rattle.hz_bound.proofs.loads.times_of.Given as goal

-- the classes of the instructions so far are counted
abbrev pub invariant-loop-insn : goal.invariant-loop-insn
invariant-loop-insn l = AreTimes (map (λ i. i.class) (take l.insn-index l.insns)) l.classes l.times.items
