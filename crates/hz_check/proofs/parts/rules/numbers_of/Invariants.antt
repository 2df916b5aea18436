use Rattle.std.proofs.Common.{◌≡◌, map, take}
use Rattle.hz_check_reservations.specs.Shape.{place_of}
use Rattle.hz_description_model.specs.Reservations.Inside.{unit_numbers}
use Rattle.hz_check.proofs.parts.rules.numbers_of.Given as goal

abbrev pub invariant-loop-pattern : goal.invariant-loop-pattern
invariant-loop-pattern l = map (λ p. p.items) l.found.items ≡ map (λ p. unit_numbers (map place_of p.items)) (take l.pattern-index l.patterns)
