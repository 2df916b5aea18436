-- Numbers of classes are those of their names.
use Rattle.std.proofs.Common.{◌≡◌, ℕ, Bool, ◌<◌, ⊎_elim, true, false, List, [], ◌∷◌, length, Contains, Some, refl, sym, ap, ◌∙◌, subst, arith, slice_get}
use Rattle.std.specs.Prelude.{get_or}
use Rattle.std.specs.List.{position_or_len}
use Rattle.std.specs.Option.{option_map}
use Rattle.std.specs.Str.{bytes_eq}
use Rattle.std.proofs.lemmas.Bool.{both_ways, lt-ltb}
use Rattle.std.proofs.lemmas.List.{length-map}
use Rattle.std.proofs.lemmas.List.Quantifiers.{position-Some}
use Rattle.std.proofs.lemmas.Option.{slice_get-map, slice_get_cases, get_or_from_slice_get}
use Rattle.std.proofs.lemmas.Slice.Eq.{bytes_eq-Decides}
use Rattle.hz_base_model.specs.Lines.{place_of}
use Rattle.hz_base_model.proofs.Elements.{Contains-nil, Contains-cons_cases, Contains-map}
use Rattle.hz_description_model.specs.Check.CheckedParts.{class_numbers}
use Rattle.hz_description_model.specs.Check.Places.{class_names}
use Rattle.hz_description_model.specs.Reading.Descriptions.{Description, ClassItem}
use Rattle.hz_description_model.proofs.Check.PlaceLaws.{from_filter_map}
use Rattle.hz_laws.proofs.Names.Listing.{in_filter_map}

module _ (d : Description) where
  -- the class of a name's place has that name
  class_at : (name : List ℕ) (k : ℕ) → place_of name (class_names d) ≡ Some k → (c : ClassItem) × (slice_get d.classes k ≡ Some c) × (c.name ≡ name)
  class_at name k e =
      let found = position-Some (bytes_eq name) (class_names d) k [] e in
      let long = length-map d.classes (λ (c : ClassItem). c.name) in
      ⊎_elim
      (λ h.
      let there : slice_get (class_names d) k ≡ Some (h.0).name = slice_get-map (λ (c : ClassItem). c.name) d.classes k ∙ ap (option_map (λ (c : ClassItem). c.name)) h.2 in
      let read = get_or_from_slice_get (class_names d) k (h.0).name [] there in
      (h.0, h.2, sym ((bytes_eq-Decides name (get_or (class_names d) k [])).0 found.1 ∙ read)))
      (λ h. absurd (let low = found.0 in let past = h.0 in omega (arith, low, past, long)))
      (slice_get_cases d.classes k).1

  pub of_classes : (names : List (List ℕ)) (k : ℕ) → Contains (class_numbers d names) k → (c : ClassItem) × (slice_get d.classes k ≡ Some c) × Contains names c.name
  of_classes names k h =
      let found = from_filter_map (λ name. place_of name (class_names d)) names k h in
      let c = class_at found.0 k found.2 in
      (c.0, c.1, subst (λ (name : List ℕ). Contains names name) (sym c.2) found.1)

  -- a name that is there has a place
  before_it : (name : List ℕ) (names : List (List ℕ)) → Contains names name → position_or_len (bytes_eq name) names < length names
  before_it name [] h = absurd (Contains-nil name h)
  before_it name (other ∷ names) h = by_test (before_it name names) (bytes_eq name other) refl
    where
      by_test : (Contains names name → position_or_len (bytes_eq name) names < length names) → (t : Bool) → bytes_eq name other ≡ t → position_or_len (bytes_eq name) (other ∷ names) < length (other ∷ names)
      by_test rest true e = rw (e) (omega arith)
      by_test rest false e = ⊎_elim
          (λ (same : other ≡ name). absurd (both_ways (bytes_eq name other) e ((bytes_eq-Decides name other).1 (sym same))))
          (λ (k : Contains names name). let low = rest k in rw (e) (omega (arith, low)))
          (Contains-cons_cases other name names h)

  place_there : (name : List ℕ) (names : List (List ℕ)) → Contains names name → (k : ℕ) × (place_of name names ≡ Some k)
  place_there name names h = (position_or_len (bytes_eq name) names, rw (lt-ltb (position_or_len (bytes_eq name) names) (length names) (before_it name names h)) refl)

  pub each_class : (names : List (List ℕ)) (c : ClassItem) → Contains d.classes c → Contains names c.name → (k : ℕ) × Contains (class_numbers d names) k × (o : ClassItem) × (slice_get d.classes k ≡ Some o) × (o.name ≡ c.name)
  each_class names c h named =
      let place = place_there c.name (class_names d) (Contains-map (λ (c : ClassItem). c.name) d.classes c h) in
      let o = class_at c.name place.0 place.1 in
      (place.0, in_filter_map (λ name. place_of name (class_names d)) names c.name place.0 named place.1, o.0, o.1, o.2)
