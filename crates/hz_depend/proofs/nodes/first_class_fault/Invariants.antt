use Rattle.std.proofs.Common.{◌≡◌, drop}
use Rattle.hz_depend.specs.GraphShape.{first_class_fault}
use Rattle.hz_depend.proofs.nodes.first_class_fault.Given as goal

-- what is left decides
abbrev pub invariant-loop-place : goal.invariant-loop-place
invariant-loop-place l = first_class_fault l.place l.checked (drop l.place l.insns) ≡ first_class_fault 0 l.checked l.insns
