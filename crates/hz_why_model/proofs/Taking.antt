-- What fits may be taken, by some alternative, and so is accepted.
use Rattle.std.proofs.Common.{◌≡◌, ℕ, zero, suc, ◌<◌, ◌≤◌, ◌⊎◌, inl, inr, ⊎_elim, Bool, true, false, List, [], ◌∷◌, ◌++◌, length, Option, Some, None, refl, ap, subst, arith}
use Rattle.std.specs.Prelude.{◌↔◌, slice_get}
use Rattle.std.specs.Cmp.{IsTotalOrder}
use Rattle.std.specs.FinMap.{IsAntisymmetric}
use Rattle.std.specs.declared.cmp.Ordering.{Ordering}
use Rattle.std.proofs.lemmas.Bool.{cases_lt, both_ways}
use Rattle.hz_base_model.specs.Pairs.{Pair, placed, ascending_by}
use Rattle.hz_base_model.proofs.PairOrder.{same_ascending}
use Rattle.hz_description_model.specs.Reservations.Alternatives.{Alternative}
use Rattle.hz_description_model.specs.Reservations.Sets.{Statement, Fits}
use Rattle.hz_pipeline_model.specs.Accepting.Plays.{Tells, fits_added}
use Rattle.hz_pipeline_model.specs.Accepting.Fitting.{IsUnbroken}
use Rattle.hz_pipeline_model.specs.Accepting.Events.{Event, issue, cycles_of}
use Rattle.hz_pipeline_model.specs.Accepting.Replay.{Treatment, first_fit, any_fit, Pipeline, State, start, alternatives_at, chosen, pairs_at, FitsAt, MayTake, IsChoice, Accepted, calendar, left_by}
use Rattle.hz_pipeline_model.proofs.Accepting.PlayLaws.{fits_decides}
use Rattle.hz_pipeline_model.proofs.Accepting.FittingLaws.{fits_listed, unbroken_run}
use Rattle.hz_pipeline_model.proofs.Accepting.ReplayLaws.{run_of_choices, run_more, accepted_from_runs}
use Rattle.hz_why_model.specs.Reasons.{Reason, Forbids, reason_of}
use Rattle.hz_why_model.proofs.ReasonLaws.{named_forbids, fits_unnamed, unnamed_fits}

module _ {U : Type 0} (same : U → U → Bool) (tells : Tells same) (m : Pipeline U) (s : State U) (k : ℕ) where
  -- an alternative fits or does not
  fits_or_not : (i : ℕ) → FitsAt m s k i ⊎ (FitsAt m s k i → ⊥)
  fits_or_not i = ⊎_elim within (λ (past : length (alternatives_at m k) ≤ i). inr (λ h. let lt = h.0 in absurd (omega arith))) (cases_lt i (length (alternatives_at m k)))
    where
      by_test : i < length (alternatives_at m k) → (b : Bool) → fits_added same m.statements s.reserved (placed s.now (chosen m k i)) ≡ b → FitsAt m s k i ⊎ (FitsAt m s k i → ⊥)
      by_test lt true e = inl (lt, (fits_decides same tells m.statements s.reserved (chosen m k i) s.now).0 e)
      by_test lt false e = inr (λ h. both_ways _ e ((fits_decides same tells m.statements s.reserved (chosen m k i) s.now).1 h.1))

      within : i < length (alternatives_at m k) → FitsAt m s k i ⊎ (FitsAt m s k i → ⊥)
      within lt = by_test lt _ refl

  -- the first of the alternatives up to one that fits
  abbrev FirstFit : ℕ → Type 0
  FirstFit j = FitsAt m s k j × ((i : ℕ) → i < j → FitsAt m s k i → ⊥)

  first_up_to : (n : ℕ) → ((j : ℕ) × FirstFit j) ⊎ ((i : ℕ) → i < n → FitsAt m s k i → ⊥)
  first_up_to zero = inr (λ i low h. absurd (omega arith))
  first_up_to (suc n) = ⊎_elim inl more (first_up_to n)
    where
      more : ((i : ℕ) → i < n → FitsAt m s k i → ⊥) → ((j : ℕ) × FirstFit j) ⊎ ((i : ℕ) → i < suc n → FitsAt m s k i → ⊥)
      more none = ⊎_elim
          (λ fits. inl (n, (fits, none)))
          (λ no. inr (λ i low h. ⊎_elim (λ (below : i < n). none i below h) (λ (at : n ≤ i). let e : i ≡ n = omega arith in no (subst (λ (j : ℕ). FitsAt m s k j) e h)) (cases_lt i n)))
          (fits_or_not n)

  -- some alternative of the class fits, or none does
  pub some_or_none : ((i : ℕ) × FitsAt m s k i) ⊎ ((i : ℕ) → FitsAt m s k i → ⊥)
  some_or_none = ⊎_elim
      (λ found. inl (found.0, found.1.0))
      (λ none. inr (λ i h. none i h.0 h))
      (first_up_to (length (alternatives_at m k)))

  by_treatment : (treatment : Treatment) → m.treatment ≡ treatment → (i : ℕ) → FitsAt m s k i → (j : ℕ) × MayTake m s k j
  by_treatment any_fit e i h = (i, record { fits = h; first = λ first. absurd (cc) })
  by_treatment first_fit e i h = ⊎_elim
      (λ found. (found.0, record { fits = found.1.0; first = λ first. found.1.1 }))
      (λ none. absurd (none i (omega arith) h))
      (first_up_to (suc i))

  -- where some alternative fits one may be taken
  pub some_may : (i : ℕ) → FitsAt m s k i → (j : ℕ) × MayTake m s k j
  some_may i h = by_treatment m.treatment refl i h

module _ {U : Type 0} (same : U → U → Bool) (tells : Tells same) (unit_cmp : U → U → Ordering) (total : IsTotalOrder unit_cmp) (exact : IsAntisymmetric unit_cmp) where
  -- nothing is named of an alternative exactly where it fits
  pub named_unless_fits : (statements : List (Statement U)) (source : List (Pair U)) (now : ℕ) (a : Alternative U) → IsUnbroken statements source → reason_of same unit_cmp statements source now a ≡ None ↔ Fits statements source a.pairs now
  named_unless_fits statements source now a unbroken =
      let listed = fits_listed statements source source (ascending_by unit_cmp a.pairs) a.pairs now (λ p. (λ h. h, λ h. h)) (same_ascending unit_cmp total exact a.pairs) in (
        λ h. listed.0 (fits_unnamed same tells statements source (ascending_by unit_cmp a.pairs) now unbroken h),
        λ h. unnamed_fits same tells statements source (ascending_by unit_cmp a.pairs) now (listed.1 h),
      )

module _ {U : Type 0} (same : U → U → Bool) (tells : Tells same) (m : Pipeline U) where
  -- an issue is accepted where some alternative fits what choices have left
  pub accepted_fit : (t : List Event) (choices : List ℕ) (k i : ℕ) → IsChoice m t choices → FitsAt m (left_by m t choices) k i → Accepted m (t ++ issue k ∷ [])
  accepted_fit t choices k i is fits =
      let may = some_may same tells m (left_by m t choices) k i fits in
      let run = run_of_choices m t choices is in
      accepted_from_runs m (t ++ issue k ∷ []) (_, run_more m start (left_by m t choices) _ t (issue k) run (may.0, may.1, refl))

  within_some : (options : List (Alternative U)) (i : ℕ) (a : Alternative U) → slice_get options i ≡ Some a → i < length options
  within_some [] i a h = absurd (cc)
  within_some (x ∷ others) zero a h = omega arith
  within_some (x ∷ others) (suc i) a h = let rest = within_some others i a h in omega arith

  module _ (unit_cmp : U → U → Ordering) (total : IsTotalOrder unit_cmp) (exact : IsAntisymmetric unit_cmp) where
    abbrev Named : List (Pair U) → ℕ → Alternative U → Type 0
    Named source now a = (reason : Reason U) × (reason_of same unit_cmp m.statements source now a ≡ Some reason) × Forbids m.statements source (placed now (ascending_by unit_cmp a.pairs)) reason

    named_by : (source : List (Pair U)) (now : ℕ) (a : Alternative U) → (o : Option (Reason U)) → reason_of same unit_cmp m.statements source now a ≡ o → (o ≡ None → ⊥) → Named source now a
    named_by source now a None e some = absurd (some refl)
    named_by source now a (Some reason) e some = (reason, e, named_forbids same tells source (placed now (ascending_by unit_cmp a.pairs)) m.statements reason e)

    -- each alternative of an issue that is refused has something that forbids it
    pub refused_named : (t : List Event) (choices : List ℕ) (k i : ℕ) (a : Alternative U) → IsChoice m t choices → (Accepted m (t ++ issue k ∷ []) → ⊥) → slice_get (alternatives_at m k) i ≡ Some a → Named (calendar m 0 t choices) (cycles_of t) a
    refused_named t choices k i a is refused there =
        let unbroken = unbroken_run m t (left_by m t choices) (run_of_choices m t choices is) in
        named_by (calendar m 0 t choices) (cycles_of t) a _ refl (λ none.
        let fits = (named_unless_fits same tells unit_cmp total exact m.statements (calendar m 0 t choices) (cycles_of t) a unbroken).0 none in
        let pairs : chosen m k i ≡ a.pairs = ap pairs_at there in
        refused (accepted_fit t choices k i is (within_some (alternatives_at m k) i a there, rw pairs fits)))
