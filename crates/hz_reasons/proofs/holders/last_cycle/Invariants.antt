use Rattle.std.proofs.Common.{◌≡◌, max, drop}
use Rattle.hz_reasons.specs.Holding.{last_of}
use Rattle.hz_reasons.proofs.holders.last_cycle.Given as goal

abbrev pub invariant-loop-pair : goal.invariant-loop-pair
invariant-loop-pair l = last_of l.pairs ≡ max (last_of (drop l.pair-index l.pairs)) l.last
