-- Reservations that come after those that they name unwind.
use Rattle.std.proofs.Common.{◌≡◌, ℕ, zero, suc, ◌<◌, ⊎_elim, cond, eqb, List, [], ◌∷◌, map, length, Contains, Option, Some, None, refl, sym, ap, ◌∙◌, subst, arith, slice_get}
use Rattle.std.proofs.lemmas.Bool.{cond_both, cond-true, eq-eqb, eqb-true}
use Rattle.std.proofs.lemmas.List.{length-map, length-append}
use Rattle.std.proofs.lemmas.Option.{same_Some, slice_get-get_or}
use Rattle.hz_check_reservations.proofs.Names.{name_there}
use Rattle.hz_check_reservations.proofs.Ordered.{IsReservationAt, IsClassAt, reservation_or_class, number_is, Contains-filter_map}
use Rattle.hz_description_model.specs.Reservations.Alternatives.{Expression}
use Rattle.hz_description_model.specs.Reservations.Automata.{UnitPlace}
use Rattle.hz_description_model.specs.Check.CheckFaults.{faults_of_names, IsUnfolded}
use Rattle.hz_description_model.specs.Check.CountingOrder.{Reserving, reserving_reservation, reservations_of, classes_of}
use Rattle.hz_description_model.specs.Check.FirstReported.{first_reported}
use Rattle.hz_description_model.specs.Reservations.NamesIn.{names_in}
use Rattle.hz_description_model.specs.Reading.Descriptions.{Description, ReservationItem}
use Rattle.hz_description_model.specs.Reading.DescriptionShape.{IsCheckable}
use Rattle.hz_description_model.specs.Check.Places.{unit_place, reservation_named, unit_or_reservation, meaning, IsKnown, Known}
use Rattle.hz_description_model.specs.Reservations.Meanings.{reservation, Mentions, Unwinds}
use Rattle.hz_description_model.proofs.Check.CircleLaws.{named_there}
use Rattle.hz_description_model.proofs.Check.CountingLaws.{at_name_named}
use Rattle.hz_description_model.proofs.Check.PlaceLaws.{at_name_in}
use Rattle.hz_description_model.proofs.Reservations.MeaningLaws.{assigned, assigned_right}
use Rattle.hz_check_reservations.specs.Graphs.{At}
use Rattle.hz_check_reservations.specs.Orders.{all_of, reserving, reservings, number_of, numbers_in, IsOrder}
use Rattle.hz_check_reservations.proofs.Places.{At_from_Contains}

-- the first place of a number
abbrev place_in : ℕ → List ℕ → ℕ
place_in k [] = 0
place_in k (x ∷ xs) = cond (eqb x k) 0 (suc (place_in k xs))

at_place : (xs : List ℕ) (j k : ℕ) → At xs j k → At xs (place_in k xs) k
at_place [] j k h = absurd (cc)
at_place (x ∷ xs) zero k h = let same : x ≡ k = cc in subst (λ (p : ℕ). At (x ∷ xs) p k) (sym (cond-true (eqb x k) 0 (suc (place_in k xs)) (eq-eqb x k same))) h
at_place (x ∷ xs) (suc j) k h = cond_both (eqb x k) 0 (suc (place_in k xs)) (λ (p : ℕ). At (x ∷ xs) p k) (λ e. ap Some (eqb-true x k e)) (λ _. at_place xs j k h)

module _ (d : Description) (reported : first_reported (faults_of_names d) ≡ None) (formed : IsCheckable d) (order : List ℕ) (ordered : IsOrder d order) where
  place_is : (j k : ℕ) → At order j k → place_in k order ≡ j
  place_is j k at = ordered.once.same (place_in k order) j k (at_place order j k at) at

  rank_of : Option ℕ → ℕ
  rank_of None = 0
  rank_of (Some k) = suc (place_in k order)

  -- the reservation of a name that stands for an expression
  record IsNamed (name : List ℕ) (e : Expression) : Type 0 where
    number : ℕ
    number_is_this : number_of d name ≡ Some number
    place : ℕ
    at : At order place number
    expression : (reserving d number).expression ≡ e

  by_number : (name : List ℕ) (r : ReservationItem) → reservation_named d name ≡ Some r → IsNamed name r.expression
  by_number name r found =
      let same = at_name_named (λ (r : ReservationItem). r.name) name d.reservations r found in
      let place = at_name_in name (map (λ (r : ReservationItem). r.name) d.reservations) d.reservations r found in
      let i = place.0 in
      let there : slice_get d.reservations i ≡ Some r = slice_get-get_or d.reservations i r place.1 ∙ ap Some place.2 in
      let number : number_of d r.name ≡ Some i = number_is d reported formed order ordered i r.name (name_there d reported formed i r there) in
      let low : i < length (all_of d) = omega (arith, place.1, length-map d.reservations reserving_reservation, length-append (reservations_of d) (classes_of d)) in
      let at = At_from_Contains order i (ordered.complete i low) in
      record {
        number = i;
        number_is_this = subst (λ (n : List ℕ). number_of d n ≡ Some i) same number;
        place = at.0;
        at = at.1;
        expression = ⊎_elim
            (λ (x : IsReservationAt d i). ap (λ (q : Reserving). q.expression) x.is ∙ ap (λ (q : ReservationItem). q.expression) (same_Some x.item r (sym x.there ∙ there)))
            (λ (x : IsClassAt d i). absurd (omega (arith, place.1, x.past)))
            (reservation_or_class d i low);
      }

  named : (name : List ℕ) (e : Expression) → meaning d name ≡ Some (reservation e) → IsNamed name e
  named name e means = by_parts (unit_place d name) (reservation_named d name) refl means
    where
      by_parts : (u : Option UnitPlace) (o : Option ReservationItem) → reservation_named d name ≡ o → unit_or_reservation u o ≡ Some (reservation e) → IsNamed name e
      by_parts (Some u) o is h = absurd (cc)
      by_parts None None is h = absurd (cc)
      by_parts None (Some r) is h = let same : r.expression ≡ e = cc in subst (IsNamed name) same (by_number name r is)

  falls : (name other : List ℕ) (e : Expression) → meaning d name ≡ Some (reservation e) → Mentions e other → rank_of (number_of d other) < rank_of (number_of d name)
  unfolding rank_of
  falls name other e means m =
      let n = named name e means in
      subst (λ (o : Option ℕ). rank_of (number_of d other) < rank_of o) (sym n.number_is_this) (low n (number_of d other) refl)
    where
      low : (n : IsNamed name e) (o : Option ℕ) → number_of d other ≡ o → rank_of o < suc (place_in n.number order)
      low n None is = omega arith
      low n (Some k) is =
          let among : Contains (numbers_in d (reserving d n.number).expression) k = subst (λ (x : Expression). Contains (numbers_in d x) k) (sym n.expression) (Contains-filter_map (number_of d) (names_in e) other k (named_there e other m) is) in
          let before = ordered.ready n.place n.number k n.at among in
          let here = place_is n.place n.number n.at in
          let there = place_is before.0 k before.2 in
          omega (arith, before.1)

  pub unwinds : Unwinds (meaning d)
  unwinds = record { rank = λ name. rank_of (number_of d name); falls = falls }

  pub some_known : (known : Known) × IsKnown d known
  some_known = (assigned (meaning d) unwinds, record { unwinds = unwinds; expands = assigned_right (meaning d) unwinds })

  pub unfolded : (known : Known) × IsUnfolded d known (reservings d order)
  unfolded = let k = some_known in (k.0, record { defined = reported; right = k.1; counts = ordered.counts })
