use Rattle.std.proofs.Common.{◌≡◌, map, take}
use Rattle.hz_altern.specs.Shapes.{pairs_of}
use Rattle.hz_reasons.specs.Plans.{place_of}
use Rattle.hz_reasons.proofs.planning.choices.places.Given as goal

abbrev pub invariant-loop-pair : goal.invariant-loop-pair
invariant-loop-pair l = map place_of l.places.items ≡ pairs_of (take l.pair-index l.pairs)
