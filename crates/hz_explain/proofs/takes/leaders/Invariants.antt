use Rattle.std.proofs.Common.{◌≡◌, map, take}
use Rattle.hz_why_model.specs.Groups.{first_place}
use Rattle.hz_explain.specs.Taking.{take_alike}
use Rattle.hz_explain.proofs.takes.leaders.Given as goal

abbrev pub invariant-loop-place : goal.invariant-loop-place
invariant-loop-place l = l.leaders.items ≡ map (λ choice. first_place (take_alike choice) l.choices) (take l.place l.choices)
