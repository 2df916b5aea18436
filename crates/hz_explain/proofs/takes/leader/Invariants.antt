use Rattle.std.proofs.Common.{◌≡◌, ◌+◌, drop}
use Rattle.hz_why_model.specs.Groups.{first_place}
use Rattle.hz_explain.specs.Taking.{take_alike}
use Rattle.hz_explain.proofs.takes.leader.Given as goal

abbrev pub invariant-loop-place : goal.invariant-loop-place
invariant-loop-place l = l.place + first_place (take_alike l.choice) (drop l.place l.choices) ≡ first_place (take_alike l.choice) l.choices
