use Rattle.std.proofs.Common.{◌≡◌, map, take}
use Rattle.hz_check.proofs.parts.rules.numbers.Given as goal

abbrev pub invariant-loop-place : goal.invariant-loop-place
invariant-loop-place l = l.numbers.items ≡ map (λ p. p.unit) (take l.place-index l.places)
