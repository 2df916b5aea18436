-- Which of the examples' units may be moved.
use Rattle.std.proofs.Common.{◌≡◌, ℕ, zero, suc, ◌≤◌, [], ◌∷◌, Contains, refl, subst, arith, ⊎_elim}
use Rattle.hz_base_model.specs.Pairs.{Pair}
use Rattle.hz_base_model.proofs.Elements.{Contains-nil, Contains-head, Contains-cons_cases}
use Rattle.hz_description_model.specs.Reservations.Sets.{Statement}
use Rattle.hz_pipeline_model.specs.Accepting.Replay.{chosen}
use Rattle.hz_laws.specs.Moving.{IsLate, IsTied, MayMove}
use Rattle.hz_laws.specs.MovingExamples.{together, apart, excluded, present, both_later, one_later, one_needed, at_once}

-- the only item of a list
only : {A : Type 0} (x y : A) → Contains (x ∷ []) y → x ≡ y
only x y h = ⊎_elim (λ e. e) (λ there. absurd (Contains-nil y there)) (Contains-cons_cases x y [] h)

late_one : (p : Pair ℕ) → 1 ≤ p.cycle → IsLate (together 1) (p ∷ [])
late_one p low q h = subst (λ (r : Pair ℕ). 1 ≤ r.cycle) (only p q h) low

late_none : IsLate (together 1) []
late_none p h = absurd (Contains-nil p h)

late_both : (k i : ℕ) → IsLate (together 1) (chosen both_later k i)
late_both zero zero = late_one (record { unit = 0; cycle = 2 }) (omega arith)
late_both zero (suc i) = late_none
late_both (suc zero) zero = late_one (record { unit = 1; cycle = 1 }) (omega arith)
late_both (suc zero) (suc i) = late_none
late_both (suc (suc k)) i = late_none

tied_by_one : (s : Statement ℕ) → IsTied (together 1) s
tied_by_one s = record { cycles = 1; units = λ u is. refl; patterns = λ pattern there u is. refl }

pub together_may : MayMove (together 1) both_later
together_may = record { late = late_both; tied = λ s is. tied_by_one s }

pub alone_may_not : MayMove (apart 1 0) one_later → ⊥
alone_may_not h =
    let tied = h.tied excluded (Contains-head excluded []) in
    let first = tied.units 0 (Contains-head 0 []) in
    let second = tied.patterns (1 ∷ []) (Contains-head (1 ∷ []) []) 1 (Contains-head 1 []) in
    absurd (omega (arith, first, second))

pub crossed_may_not : MayMove (apart 1 2) one_needed → ⊥
crossed_may_not h =
    let tied = h.tied present (Contains-head present []) in
    let first = tied.units 0 (Contains-head 0 []) in
    let second = tied.patterns (1 ∷ []) (Contains-head (1 ∷ []) []) 1 (Contains-head 1 []) in
    absurd (omega (arith, first, second))

pub early_may_not : MayMove (together 1) at_once → ⊥
early_may_not h = let low = h.late 0 0 (record { unit = 0; cycle = 0 }) (Contains-head (record { unit = 0; cycle = 0 }) []) in absurd (omega (arith, low))
