use Rattle.std.proofs.Common.{◌≡◌, map, take}
use Rattle.hz_why_model.specs.Groups.{first_place}
use Rattle.hz_explain.specs.Grouping.{alike_in}
use Rattle.hz_explain.proofs.groups.leaders.Given as goal

abbrev pub invariant-loop-reason : goal.invariant-loop-reason
invariant-loop-reason l = l.leaders.items ≡ map (λ reason. first_place (alike_in l.sets reason) l.reasons) (take l.reason-index l.reasons)
