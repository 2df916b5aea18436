use Rattle.std.proofs.Common.{◌≡◌, ◌+◌, max, drop}
use Rattle.hz_reasons.specs.Holding.{most}
use Rattle.hz_reasons.proofs.holders.cycles_left.Given as goal

abbrev pub invariant-loop-holder : goal.invariant-loop-holder
invariant-loop-holder l = most (λ h. h.left + 1) l.issues ≡ max (most (λ h. h.left + 1) (drop l.holder-index l.issues)) l.cycles
