use Rattle.std.proofs.Common.{◌≤◌, sum_by, take}
use Rattle.std.specs.Prelude.{slice_index}
use Rattle.hz_modulo.proofs.loads.total.Given as goal

-- no more than those so far weigh
abbrev pub invariant-loop-class : goal.invariant-loop-class
invariant-loop-class l = l.sum ≤ sum_by (slice_index l.weights) (take l.class-index l.classes)
