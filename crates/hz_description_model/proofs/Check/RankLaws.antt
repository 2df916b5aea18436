-- The number of reservations is depth enough, since none of them reaches itself.
use Rattle.std.proofs.Common.{◌≡◌, ℕ, ◌≤◌, List, length, map, Contains, Option, Some, None, refl, subst, arith, Bool}
use Rattle.std.proofs.lemmas.List.{length-map}
use Rattle.hz_description_model.specs.Reservations.Alternatives.{Expression}
use Rattle.hz_description_model.specs.Reservations.Automata.{UnitPlace}
use Rattle.hz_description_model.specs.Reservations.Meanings.{reservation, Reaches, Unwinds}
use Rattle.hz_description_model.specs.Reading.Descriptions.{Description, ReservationItem}
use Rattle.hz_description_model.specs.Check.Places.{unit_place, reservation_named, unit_or_reservation, meaning, IsKnown, Known}
use Rattle.hz_description_model.specs.Splits.Rules.{somewhere, of_reservation, passes}
use Rattle.hz_base_model.proofs.Elements.{Contains-map}
use Rattle.hz_description_model.proofs.Reservations.MeaningLaws.{none_reaches_itself}
use Rattle.hz_description_model.proofs.Check.CircleLaws.{unwinds, rank_low}
use Rattle.hz_description_model.proofs.Check.CountingLaws.{at_name_named}
use Rattle.hz_description_model.proofs.Check.PlaceLaws.{at_name_in}
use Rattle.hz_description_model.proofs.Splits.DepthLaws.{unfolds_once}

reservation_of : (o : Option UnitPlace) (r : Option ReservationItem) (e : Expression) → unit_or_reservation o r ≡ Some (reservation e) → (item : ReservationItem) × (r ≡ Some item)
reservation_of (Some u) r e is = absurd (cc)
reservation_of None None e is = absurd (cc)
reservation_of None (Some item) e is = (item, refl)

module _ (d : Description) where
  abbrev names : List (List ℕ)
  names = map (λ (r : ReservationItem). r.name) d.reservations

  pub listed : (name : List ℕ) (e : Expression) → meaning d name ≡ Some (reservation e) → Contains names name
  listed name e is =
      let found = reservation_of (unit_place d name) (reservation_named d name) e is in
      let there = at_name_in name (map (λ r. r.name) d.reservations) d.reservations found.0 found.1 in
      subst (λ (n : List ℕ). Contains names n) (at_name_named (λ (r : ReservationItem). r.name) name d.reservations found.0 found.1) (Contains-map (λ (r : ReservationItem). r.name) d.reservations found.0 there)

  module _ (known : Known) (is : IsKnown d known) where
    pub no_circle : (name : List ℕ) → Reaches (meaning d) name name → ⊥
    no_circle name h = none_reaches_itself (meaning d) is.unwinds name h

    -- ranks that are at most the number of reservations
    abbrev pub ranks : Unwinds (meaning d)
    ranks = unwinds (meaning d) names listed no_circle

    pub ranks_low : (name : List ℕ) → ranks.rank name ≤ length d.reservations
    ranks_low name =
        let low = rank_low (meaning d) names listed no_circle name in
        let long = length-map d.reservations (λ (r : ReservationItem). r.name) in
        omega arith

    pub unfolds_in_reservations : (test : Expression → Bool) (name : List ℕ) → passes test (meaning d) (length d.reservations) name ≡ of_reservation (somewhere test (passes test (meaning d) (length d.reservations))) (meaning d name)
    unfolds_in_reservations test name = unfolds_once test (meaning d) ranks (length d.reservations) ranks_low name
