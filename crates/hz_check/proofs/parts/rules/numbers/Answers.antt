use Rattle.std.proofs.Common.{map, sym, ap, ◌∙◌}
use Rattle.std.proofs.lemmas.List.{take_all}
use Rattle.hz_check_reservations.specs.Shape.{place_of}
use Rattle.hz_check.proofs.Lists.Next.{map-map}
use Rattle.hz_check.proofs.parts.rules.numbers.Goals as goal

pub returns : goal.returns
returns c =
    c.loop-place.invariant
    ∙ (ap (map (λ p. p.unit)) (take_all c.loop-place.place-index c.args.places.now c.loop-place-test.false) ∙ sym (map-map (λ u. u.unit) place_of c.args.places.now))
