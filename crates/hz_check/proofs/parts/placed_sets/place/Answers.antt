use Rattle.std.proofs.Common.{◌≡◌, ℕ, List, Option, Some, None, map, slice_get, length, arith, refl, sym, ap, ◌∙◌, option_and_then}
use Rattle.std.proofs.lemmas.Bool.{ltb-true, ltb-false}
use Rattle.std.proofs.lemmas.Option.{slice_get_read, slice_get-map, slice_get_past}
use Rattle.std.specs.Option.{option_map}
use Rattle.hz_mdread.specs.Shape.{description}
use Rattle.hz_check_reservations.specs.Shape.{place_of}
use Rattle.hz_check.proofs.Tables.Homes.{at_name-at}
use Rattle.hz_description_model.specs.Reading.Descriptions.{Description}
use Rattle.hz_base_model.specs.Lines.{place_of as at_place}
use Rattle.hz_description_model.specs.Check.Places.{unit_places, unit_place}
use Rattle.hz_check_reservations.specs.declared.listing.unit_place.UnitPlace.{UnitPlace as Place}
use Rattle.hz_check.proofs.parts.placed_sets.place.Goals as goal

-- the place of a unit by its place in the file
place_at : (d : Description) (places : List Place) (name : List ℕ) (index : Option ℕ) → map place_of places ≡ unit_places d → index ≡ at_place name (map (λ u. u.name) d.units) → option_and_then (λ i. option_map place_of (slice_get places i)) index ≡ unit_place d name
place_at d places name index all is =
    of_index index
    ∙ (ap (λ ps. option_and_then (slice_get ps) index) all ∙ (ap (option_and_then (slice_get (unit_places d))) is ∙ sym (at_name-at name (map (λ u. u.name) d.units) (unit_places d))))
  where
    of_index : (o : Option ℕ) → option_and_then (λ i. option_map place_of (slice_get places i)) o ≡ option_and_then (slice_get (map place_of places)) o
    of_index None = refl
    of_index (Some i) = sym (slice_get-map place_of places i)

pub returns-in-None-clause-place : goal.returns-in-None-clause-place
returns-in-None-clause-place c =
    let names = c.args.names.now in
    let unit = c.args.unit.now in
    place_at (description names.desc.now) c.args.places.now unit None c.requires (c.in-None.ensures ∙ names.units_placed unit)

pub returns-in-None-get-clause-place : goal.returns-in-None-get-clause-place
returns-in-None-get-clause-place c =
    let names = c.args.names.now in
    let unit = c.args.unit.now in
    let index = c.in-Some.index.now in
    ap (option_map place_of) (sym (slice_get_past c.args.places.now index (omega (arith, ltb-false _ _ (sym c.in-None-get.ensures.lookup.0)))))
    ∙ place_at (description names.desc.now) c.args.places.now unit (Some index) c.requires (c.in-Some.ensures ∙ names.units_placed unit)

pub returns-in-Some-get-clause-place : goal.returns-in-Some-get-clause-place
returns-in-Some-get-clause-place c =
    let names = c.args.names.now in
    let unit = c.args.unit.now in
    let index = c.in-Some.index.now in
    let places = c.args.places.now in
    ap (option_map place_of) (sym (slice_get_read places (length places) index c.in-Some-get.place.now refl (ltb-true _ _ (sym c.in-Some-get.ensures.lookup.0)) c.in-Some-get.ensures.lookup.1))
    ∙ place_at (description names.desc.now) places unit (Some index) c.requires (c.in-Some.ensures ∙ names.units_placed unit)
