use Rattle.std.proofs.Common.{◌≡◌, ◌+◌, max, drop}
use Rattle.hz_reasons.specs.Holding.{most}
use Rattle.hz_explain.proofs.picture.cycles_of_pairs.Given as goal

abbrev pub invariant-loop-pair : goal.invariant-loop-pair
invariant-loop-pair l = most (λ p. p.cycle + 1) l.pairs ≡ max (most (λ p. p.cycle + 1) (drop l.pair-index l.pairs)) l.cycles
