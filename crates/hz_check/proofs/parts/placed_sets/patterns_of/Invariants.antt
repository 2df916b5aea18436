use Rattle.std.proofs.Common.{◌≡◌, All, map, take}
use Rattle.hz_mdread.specs.Shape.{description}
use Rattle.hz_check.specs.Faults.PastUnits.{IsWithin}
use Rattle.hz_check_reservations.specs.Shape.{place_of}
use Rattle.hz_description_model.specs.Check.Places.{places_of}
use Rattle.hz_check.proofs.parts.placed_sets.patterns_of.Given as goal

abbrev pub invariant-loop-pattern : goal.invariant-loop-pattern
invariant-loop-pattern l = record {
  places : map (λ p. map place_of p.items) l.found.items ≡ map (λ p. places_of (description l.names.desc.now) p.items) (take l.pattern-index l.patterns);
  within : All (λ p. All IsWithin p.items) l.found.items;
}
