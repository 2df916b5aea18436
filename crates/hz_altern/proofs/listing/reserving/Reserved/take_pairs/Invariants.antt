use Rattle.std.proofs.Common.{take}
use Rattle.hz_altern.specs.Reserved.{IsOfPairs, ReservesToo}
use Rattle.hz_altern.specs.Shapes.{pairs_of}
use Rattle.hz_altern.proofs.listing.reserving.Reserved.take_pairs.Given as goal

-- the pairs so far are reserved
abbrev pub invariant-loop-pair : goal.invariant-loop-pair
invariant-loop-pair l = ReservesToo (IsOfPairs (pairs_of (take l.pair-index l.pairs)) l.starts) l.initial.self l.self
