use Rattle.std.proofs.Common.{◌≡◌, map, take}
use Rattle.hz_check_reservations.specs.Shape.{place_of}
use Rattle.hz_reasons.specs.Plans.{unit_of}
use Rattle.hz_reasons.proofs.planning.sets.patterns.Given as goal

abbrev pub invariant-loop-pattern : goal.invariant-loop-pattern
invariant-loop-pattern l = map (λ pattern. map unit_of pattern.items) l.patterns.items ≡ map (λ pattern. map place_of pattern.items) (take l.pattern-index l.placed)
