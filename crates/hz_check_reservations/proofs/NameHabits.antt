-- What is to be kept for the names of a description.
use Rattle.std.proofs.Common.{◌≡◌, ℕ, ◌<◌, ◌≤◌, Bool, true, false, ⊎_elim, List, [], ◌∷◌, length, take, Option, Some, None, refl, sym, ap, ◌∙◌, subst, arith, slice_get}
use Rattle.std.proofs.lemmas.Option.{same_Some, slice_get_within}
use Rattle.hz_description_model.specs.Reservations.Alternatives.{Alternative, Expression, taking, alternatives_of}
use Rattle.hz_description_model.specs.Reservations.Automata.{UnitPlace}
use Rattle.hz_description_model.specs.Reservations.Meanings.{Mentions, alternatives_of_meaning}
use Rattle.hz_description_model.specs.Check.CheckFaults.{faults_of_names}
use Rattle.hz_description_model.specs.Check.CountingOrder.{Reserving, reserving_reservation}
use Rattle.hz_description_model.specs.Check.FirstReported.{first_reported}
use Rattle.hz_description_model.specs.Check.Places.{Known}
use Rattle.hz_description_model.specs.Check.Places.{unit_places, meaning, IsKnown}
use Rattle.hz_check_reservations.specs.Tables.{Holds, IsAfter}
use Rattle.hz_check_reservations.proofs.CountingNames.{names_there, formed_there}
use Rattle.hz_check_reservations.proofs.Holding.{value_of}
use Rattle.hz_check_reservations.proofs.Names.{unit_means, reservation_means}
use Rattle.hz_check_reservations.proofs.Ordered.{IsReservationAt, IsClassAt, reservation_or_class}
use Rattle.hz_description_model.proofs.Reservations.ExpressionLaws.{some_alternatives}
use Rattle.hz_description_model.proofs.Check.RankLaws.{unfolds_in_reservations}
use Rattle.hz_description_model.specs.Reading.Descriptions.{Description, UnitItem, ReservationItem}
use Rattle.hz_description_model.specs.Reading.DescriptionShape.{IsCheckable}
use Rattle.hz_description_model.specs.Splits.Rules.{somewhere, of_reservation, passes, is_mixed, is_uneven}
use Rattle.hz_check_reservations.specs.Graphs.{At}
use Rattle.hz_check_reservations.specs.Orders.{reserving, IsOrder}
use Rattle.hz_check_reservations.proofs.Places.{Contains-from_At}
use Rattle.hz_check_reservations.specs.declared.rules.habits.Habits.{Habits}
use Rattle.hz_check_reservations.specs.Habits.{habits_of_unit}
use Rattle.hz_check_reservations.specs.HabitTables.{AreRight, HasHabits, mixed_in, uneven_in}
use Rattle.hz_check_reservations.proofs.FitLaws.{fits_same}
use Rattle.hz_check_reservations.proofs.Says.{Says}

-- names in an expression for which is kept what is to be kept
pub right_habits : (d : Description) (N : List ℕ → Type 0) (known : Known) → IsKnown d known → (table : List ℕ → Option Habits) → Holds (HasHabits d) N table → (e : Expression) → ((name : List ℕ) → Mentions e name → N name)
    → AreRight table known (mixed_in d known) (uneven_in d known) e
right_habits d N known right table h e names = record {
  each = λ name x m is. (h.right name x is).fits known right;
  some = λ name m. let v = value_of (HasHabits d) N table h name (names name m) in (v.2).some known right;
}

module _ (d : Description) (reported : first_reported (faults_of_names d) ≡ None) (formed : IsCheckable d) where
  module _ (i : ℕ) (u : UnitItem) (place : UnitPlace) (there : slice_get d.units i ≡ Some u) (is : slice_get (unit_places d) i ≡ Some place) where
    unit_known : (known : Known) → IsKnown d known → known u.name ≡ taking place ∷ []
    unit_known known right = right.expands u.name ∙ ap (alternatives_of_meaning known) (unit_means d reported formed i u place there is)

    unit_passes : (known : Known) → IsKnown d known → (test : Expression → Bool) → passes test (meaning d) (length d.reservations) u.name ≡ false
    unit_passes known right test =
        unfolds_in_reservations d known right test u.name
        ∙ ap (of_reservation (somewhere test (passes test (meaning d) (length d.reservations)))) (unit_means d reported formed i u place there is)

    pub unit_habits : HasHabits d u.name (habits_of_unit place.automaton)
    unit_habits = record {
      fits = λ known right. fits_same (taking place ∷ []) (known u.name) false (mixed_in d known u.name) false (uneven_in d known u.name) (habits_of_unit place.automaton)
          (sym (unit_known known right)) (sym (unit_passes known right (is_mixed known))) (sym (unit_passes known right (is_uneven known)))
          (record { spread = refl; shortest = refl; longest = refl; mixed = refl; uneven = λ _. refl });
      some = λ known right. let e = unit_known known right in rw e (omega arith);
    }

  module _ (order : List ℕ) (ordered : IsOrder d order) (i number : ℕ) (at : At order i number) where
    -- a number of a class
    pub class_there : length d.reservations ≤ number → (reserving d number).is_class ≡ true
    class_there past = ⊎_elim
        (λ (r : IsReservationAt d number). let low = slice_get_within d.reservations number r.item r.there in absurd (omega arith))
        (λ (c : IsClassAt d number). ap (λ (q : Reserving). q.is_class) c.is)
        (reservation_or_class d number (ordered.within number (Contains-from_At order i number at)))

    module _ (item : ReservationItem) (there : slice_get d.reservations number ≡ Some item) where
      pub reservation_is : reserving_reservation item ≡ reserving d number
      reservation_is = ⊎_elim
          (λ (r : IsReservationAt d number). ap reserving_reservation (same_Some item r.item (sym there ∙ r.there)) ∙ sym r.is)
          (λ (c : IsClassAt d number). let low = slice_get_within d.reservations number item there in let past = c.past in absurd (omega arith))
          (reservation_or_class d number (ordered.within number (Contains-from_At order i number at)))

      names : (name : List ℕ) → Mentions item.expression name → IsAfter d (take i order) name
      names = names_there (HasHabits d) d reported formed order ordered i number at (reserving_reservation item) reservation_is

      reservation_known : (known : Known) → IsKnown d known → known item.name ≡ alternatives_of known item.expression
      reservation_known known right = right.expands item.name ∙ ap (alternatives_of_meaning known) (reservation_means d reported formed number item there)

      reservation_passes : (known : Known) → IsKnown d known → (test : Expression → Bool) → passes test (meaning d) (length d.reservations) item.name ≡ somewhere test (passes test (meaning d) (length d.reservations)) item.expression
      reservation_passes known right test =
          unfolds_in_reservations d known right test item.name
          ∙ ap (of_reservation (somewhere test (passes test (meaning d) (length d.reservations)))) (reservation_means d reported formed number item there)

      pub reservation_habits : (table : List ℕ → Option Habits) (h : Habits) → Holds (HasHabits d) (IsAfter d (take i order)) table → Says table item.expression h → HasHabits d item.name h
      reservation_habits table h holds says = record {
        fits = λ known right. fits_same (alternatives_of known item.expression) (known item.name) _ (mixed_in d known item.name) _ (uneven_in d known item.name) h
            (sym (reservation_known known right)) (sym (reservation_passes known right (is_mixed known))) (sym (reservation_passes known right (is_uneven known)))
            (says known (mixed_in d known) (uneven_in d known) (right_habits d (IsAfter d (take i order)) known right table holds item.expression names));
        some = λ known right.
            let right' = right_habits d (IsAfter d (take i order)) known right table holds item.expression names in
            let written = formed_there (HasHabits d) d reported formed order ordered i number at (reserving_reservation item) reservation_is in
            subst (λ (xs : List (Alternative UnitPlace)). 0 < length xs) (sym (reservation_known known right)) (some_alternatives known item.expression written right'.some);
      }
