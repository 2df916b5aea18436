use Rattle.std.proofs.Common.{◌≡◌, ◌+◌, drop}
use Rattle.hz_why_model.specs.Groups.{first_place}
use Rattle.hz_explain.specs.Grouping.{alike_in}
use Rattle.hz_explain.proofs.groups.leader.Given as goal

abbrev pub invariant-loop-place : goal.invariant-loop-place
invariant-loop-place l = first_place (alike_in l.sets l.reason) l.reasons ≡ l.place + first_place (alike_in l.sets l.reason) (drop l.place l.reasons)
