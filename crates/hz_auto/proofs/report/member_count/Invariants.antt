use Rattle.std.proofs.Common.{◌≡◌, take, length}
use Rattle.std.specs.List.{sum_by}
use Rattle.hz_auto.proofs.report.member_count.Given as goal

abbrev pub invariant-loop-set : goal.invariant-loop-set
invariant-loop-set l = l.count ≡ sum_by (λ set. length set.items) (take l.set-index l.sets)
