use Rattle.std.proofs.Common.{◌≡◌, drop}
use Rattle.std.specs.Prelude.{max}
use Rattle.hz_measure_model.specs.Bounds.Paths.{greatest}
use Rattle.hz_bound.proofs.chain.greatest_of.Given as goal

abbrev pub invariant-loop-tail : goal.invariant-loop-tail
invariant-loop-tail l = max l.most (greatest (drop l.tail-index l.tails)) ≡ greatest l.tails
