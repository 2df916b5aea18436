use Rattle.std.proofs.Common.{◌≡◌, ◌++◌, take}
use Rattle.hz_altern.specs.Shapes.{pairs_of}
use Rattle.hz_base_model.specs.Pairs.{placed}
use Rattle.hz_altern.proofs.listing.joining.continued.Given as goal

-- the first pairs, and those of the second list so far
abbrev pub invariant-loop-pair : goal.invariant-loop-pair
invariant-loop-pair l = pairs_of l.pairs.items ≡ pairs_of l.first ++ placed l.cycles (pairs_of (take l.pair-index l.second))
