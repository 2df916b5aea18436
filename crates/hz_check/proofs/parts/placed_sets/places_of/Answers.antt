use Rattle.std.proofs.Common.{◌≡◌, ℕ, ◌<◌, ◌+◌, List, ◌++◌, map, length, drop, get_or, append_assoc, Option, Some, None, All, Contains, IfSome, refl, sym, ap, ◌∙◌, subst}
use Rattle.std.specs.List.{filter_map, cons_option}
use Rattle.std.specs.Option.{option_map, option_to_list}
use Rattle.std.proofs.lemmas.List.{append-nil, map-append}
use Rattle.std.proofs.lemmas.List.Elements.{All-push, All-contains}
use Rattle.hz_mdread.specs.Shape.{description}
use Rattle.hz_check.specs.Faults.PastUnits.{IsWithin}
use Rattle.hz_check.proofs.Lists.Next.{drop_next}
use Rattle.hz_check_reservations.specs.Shape.{place_of}
use Rattle.hz_check_reservations.specs.declared.listing.unit_place.UnitPlace.{UnitPlace as Place}
use Rattle.hz_description_model.specs.Check.Places.{places_of, unit_place}
use Rattle.hz_description_model.specs.Reservations.Automata.{UnitPlace}
use Rattle.hz_check.proofs.parts.placed_sets.places_of.Goals as goal

-- the places with that of one name more, if it has one
places_next : (f : List ℕ → Option UnitPlace) (units : List (List ℕ)) (i : ℕ) (unit : List ℕ) (found new : List Place) (p : Option Place) (all : List UnitPlace)
    → unit ≡ get_or units i unit → i < length units → option_map place_of p ≡ f unit → new ≡ found ++ option_to_list p
    → map place_of found ++ filter_map f (drop i units) ≡ all → map place_of new ++ filter_map f (drop (i + 1) units) ≡ all
places_next f units i unit found new p all is lt placed pushed kept =
    ap (λ (ns : List Place). map place_of ns ++ rest) pushed
    ∙ (ap (λ (ns : List UnitPlace). ns ++ rest) (map-append place_of found (option_to_list p))
    ∙ (append_assoc (map place_of found) (map place_of (option_to_list p)) rest
    ∙ (ap (λ (ns : List UnitPlace). map place_of found ++ ns) (added p ∙ ap (λ (o : Option UnitPlace). cons_option o rest) placed)
    ∙ (ap (λ (us : List (List ℕ)). map place_of found ++ filter_map f us) (sym (drop_next units i unit is lt)) ∙ kept))))
  where
    rest : List UnitPlace
    rest = filter_map f (drop (i + 1) units)

    added : (o : Option Place) → map place_of (option_to_list o) ++ rest ≡ cons_option (option_map place_of o) rest
    added None = refl
    added (Some q) = refl

within_next : (places found new : List Place) (p : Option Place) → All IsWithin places → IfSome p (Contains places) → new ≡ found ++ option_to_list p → All IsWithin found → All IsWithin new
within_next places found new None all among pushed kept = subst (All IsWithin) (sym (pushed ∙ append-nil found)) kept
within_next places found new (Some q) all among pushed kept = subst (All IsWithin) (sym pushed) (All-push IsWithin found q kept (All-contains IsWithin places q all among))

pub loop-unit-preserved : goal.loop-unit-preserved
loop-unit-preserved c =
    let d = description c.args.names.now.desc.now in
    record {
      places = places_next (unit_place d) c.args.units.now c.loop-unit.unit-index c.unit-item.result c.loop-unit.found.items c.add.new.found.items c.place.result (places_of d c.args.units.now)
          c.unit-item.is c.loop-unit-test.true c.place.ensures.place c.in_ok-add.ensures c.loop-unit.invariant.places;
      within = within_next c.args.places.now c.loop-unit.found.items c.add.new.found.items c.place.result c.requires.each c.place.ensures.among c.in_ok-add.ensures c.loop-unit.invariant.within;
    }
