use Rattle.std.proofs.Common.{◌≡◌, ◌++◌, map, take, drop}
use Rattle.hz_reasons.specs.Holding.{older}
use Rattle.hz_reasons.proofs.holders.pass.Given as goal

abbrev pub invariant-loop-place : goal.invariant-loop-place
invariant-loop-place l = l.issues ≡ map (older l.cycles) (take l.place l.initial.issues) ++ drop l.place l.initial.issues
