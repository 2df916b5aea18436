-- What the names of a description stand for, where none is wrong.
use Rattle.std.proofs.Common.{◌≡◌, ℕ, zero, suc, ◌<◌, ⊎_elim, true, false, List, [], ◌∷◌, ◌++◌, map, length, Contains, Some, None, refl, sym, ap, ◌∙◌, subst, arith, slice_get}
use Rattle.std.specs.Str.{bytes_eq}
use Rattle.std.specs.Option.{option_map}
use Rattle.std.proofs.lemmas.Bool.{cases_Bool, cond-true, cond-false}
use Rattle.std.proofs.lemmas.Option.{slice_get-map, slice_get_within, get_or_from_slice_get}
use Rattle.hz_check_reservations.specs.Tables.{unit_names, reservation_names, HasExtent, HasAlternatives}
use Rattle.hz_description_model.specs.Reservations.Alternatives.{Alternative, taking, alternatives_of}
use Rattle.hz_description_model.specs.Reservations.AlternativeLists.{Extent, extent_of}
use Rattle.hz_description_model.specs.Reservations.Automata.{UnitPlace, listed}
use Rattle.hz_description_model.specs.Check.CheckFaults.{faults_of_names}
use Rattle.hz_description_model.specs.Check.FirstReported.{first_reported}
use Rattle.hz_description_model.specs.Reading.Descriptions.{Description, UnitItem, ReservationItem}
use Rattle.hz_description_model.specs.Reading.DescriptionShape.{IsCheckable}
use Rattle.hz_description_model.specs.Check.Places.{at_name, place_after, places_after, unit_places, unit_or_reservation, reservation_named, meaning, IsKnown, Known}
use Rattle.hz_description_model.specs.Reservations.Meanings.{unit, reservation, alternatives_of_meaning}
use Rattle.hz_base_model.proofs.Elements.{Contains-head, Contains-tail}
use Rattle.hz_check_reservations.proofs.FirstNames.{bytes_eq-self, same_bytes}
use Rattle.hz_check_reservations.proofs.NameFacts.{AreApart, AreNamed, are_named}

rest_apart : (m : List ℕ) (names : List (List ℕ)) → AreApart (m ∷ names) → AreApart names
rest_apart m names apart = record { same = λ i j name a b. let e : suc i ≡ suc j = apart.same (suc i) (suc j) name a b in omega arith }

-- the item of a name that no two have
pub at_name_apart : {A : Type 0} (names : List (List ℕ)) (items : List A) → AreApart names → (i : ℕ) (name : List ℕ) (x : A) → slice_get names i ≡ Some name → slice_get items i ≡ Some x → at_name name names items ≡ Some x
at_name_apart [] items apart i name x n is = absurd (cc)
at_name_apart (m ∷ names) [] apart i name x n is = absurd (cc)
at_name_apart (m ∷ names) (y ∷ items) apart zero name x n is =
    let same : m ≡ name = cc in
    cond-true (bytes_eq name m) (Some y) (at_name name names items) (ap (bytes_eq name) same ∙ bytes_eq-self name) ∙ is
at_name_apart (m ∷ names) (y ∷ items) apart (suc i) name x n is = ⊎_elim
    (λ (e : bytes_eq name m ≡ true). let none : zero ≡ suc i = apart.same zero (suc i) name (ap Some (sym (same_bytes name m e))) n in absurd (omega arith))
    (λ (e : bytes_eq name m ≡ false). cond-false (bytes_eq name m) (Some y) (at_name name names items) e ∙ at_name_apart names items (rest_apart m names apart) i name x n is)
    (cases_Bool (bytes_eq name m))

-- no item has another name
pub at_name_none : {A : Type 0} (name : List ℕ) (names : List (List ℕ)) (items : List A) → (Contains names name → ⊥) → at_name name names items ≡ None
at_name_none name [] items none = refl
at_name_none name (m ∷ names) [] none = refl
at_name_none name (m ∷ names) (y ∷ items) none = ⊎_elim
    (λ (e : bytes_eq name m ≡ true). absurd (none (subst (λ (n : List ℕ). Contains (m ∷ names) n) (sym (same_bytes name m e)) (Contains-head m names))))
    (λ (e : bytes_eq name m ≡ false). cond-false (bytes_eq name m) (Some y) (at_name name names items) e ∙ at_name_none name names items (λ h. none (Contains-tail m name names h)))
    (cases_Bool (bytes_eq name m))

-- each unit has a place
pub place_there : (d : Description) (before units : List UnitItem) (i : ℕ) (u : UnitItem) → slice_get units i ≡ Some u → (place : UnitPlace) × (slice_get (places_after d before units) i ≡ Some place)
place_there d before [] i u is = absurd (cc)
place_there d before (v ∷ units) zero u is = (place_after d before v, refl)
place_there d before (v ∷ units) (suc i) u is = place_there d (before ++ v ∷ []) units i u is

module _ (d : Description) (reported : first_reported (faults_of_names d) ≡ None) (formed : IsCheckable d) where
  named : AreNamed d
  named = are_named d reported formed

  pub unit_means : (i : ℕ) (u : UnitItem) (place : UnitPlace) → slice_get d.units i ≡ Some u → slice_get (unit_places d) i ≡ Some place → meaning d u.name ≡ Some (unit place)
  unit_means i u place there is =
      let name : slice_get (unit_names d) i ≡ Some u.name = slice_get-map (λ (u : UnitItem). u.name) d.units i ∙ ap (option_map (λ (u : UnitItem). u.name)) there in
      ap (λ o. unit_or_reservation o (reservation_named d u.name)) (at_name_apart (unit_names d) (unit_places d) named.units_apart i u.name place name is)

  pub name_there : (i : ℕ) (r : ReservationItem) → slice_get d.reservations i ≡ Some r → slice_get (reservation_names d) i ≡ Some r.name
  name_there i r there = slice_get-map (λ (r : ReservationItem). r.name) d.reservations i ∙ ap (option_map (λ (r : ReservationItem). r.name)) there

  pub no_unit_named : (i : ℕ) (name : List ℕ) → slice_get (reservation_names d) i ≡ Some name → Contains (unit_names d) name → ⊥
  no_unit_named i name there h = named.no_unit name h (i, slice_get_within (reservation_names d) i name there, get_or_from_slice_get (reservation_names d) i name name there)

  pub reservation_means : (i : ℕ) (r : ReservationItem) → slice_get d.reservations i ≡ Some r → meaning d r.name ≡ Some (reservation r.expression)
  reservation_means i r there =
      let name = name_there i r there in
      ap (λ o. unit_or_reservation o (reservation_named d r.name)) (at_name_none r.name (unit_names d) (unit_places d) (no_unit_named i r.name name))
      ∙ ap (unit_or_reservation None) (at_name_apart (reservation_names d) d.reservations named.apart i r.name r name there)

  known_unit : (i : ℕ) (u : UnitItem) (place : UnitPlace) → slice_get d.units i ≡ Some u → slice_get (unit_places d) i ≡ Some place → (known : Known) → IsKnown d known → known u.name ≡ taking place ∷ []
  known_unit i u place there is known right = right.expands u.name ∙ ap (alternatives_of_meaning known) (unit_means i u place there is)

  pub known_reservation : (i : ℕ) (r : ReservationItem) → slice_get d.reservations i ≡ Some r → (known : Known) → IsKnown d known → known r.name ≡ alternatives_of known r.expression
  known_reservation i r there known right = right.expands r.name ∙ ap (alternatives_of_meaning known) (reservation_means i r there)

  -- a unit has one alternative of one cycle
  pub unit_extent : (i : ℕ) (u : UnitItem) (x : Extent) → slice_get d.units i ≡ Some u → x ≡ record { count = 1; longest = 1 } → HasExtent d u.name x
  unit_extent i u x there one =
      let place = place_there d [] d.units i u there in
      record {
        is = λ known right. one ∙ sym (ap extent_of (known_unit i u place.0 there place.1 known right));
        some = λ known right. let e = known_unit i u place.0 there place.1 known right in rw e (omega arith);
      }

  pub unit_list : (i : ℕ) (u : UnitItem) (place : UnitPlace) → slice_get d.units i ≡ Some u → slice_get (unit_places d) i ≡ Some place → HasAlternatives d u.name (taking place ∷ [])
  unit_list i u place there is = record { are = λ known right. sym (ap (map listed) (known_unit i u place there is known right)) }

  pub reservation_extent : (i : ℕ) (r : ReservationItem) (x : Extent) → slice_get d.reservations i ≡ Some r → ((known : Known) → IsKnown d known → x ≡ extent_of (alternatives_of known r.expression))
      → ((known : Known) → IsKnown d known → 0 < length (alternatives_of known r.expression)) → HasExtent d r.name x
  reservation_extent i r x there is some = record {
    is = λ known right. is known right ∙ sym (ap extent_of (known_reservation i r there known right));
    some = λ known right. subst (λ (xs : List (Alternative UnitPlace)). 0 < length xs) (sym (known_reservation i r there known right)) (some known right);
  }

  pub reservation_list : (i : ℕ) (r : ReservationItem) (xs : List (Alternative UnitPlace)) → slice_get d.reservations i ≡ Some r → ((known : Known) → IsKnown d known → xs ≡ map listed (alternatives_of known r.expression)) → HasAlternatives d r.name xs
  reservation_list i r xs there are = record { are = λ known right. are known right ∙ sym (ap (map listed) (known_reservation i r there known right)) }

places-length : (d : Description) (before units : List UnitItem) → length (places_after d before units) ≡ length units
places-length d before [] = refl
places-length d before (u ∷ units) = ap suc (places-length d (before ++ u ∷ []) units)

-- there are as many places as units
pub unit_places-length : (d : Description) → length (unit_places d) ≡ length d.units
unit_places-length d = places-length d [] d.units
