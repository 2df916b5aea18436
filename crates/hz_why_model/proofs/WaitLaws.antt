-- Each class has one wait.
use Rattle.std.proofs.Common.{◌≡◌, ℕ, zero, suc, ◌+◌, ◌<◌, ◌≤◌, max, ◌⊎◌, inl, inr, ⊎_elim, Bool, true, false, List, [], ◌∷◌, ◌++◌, Contains, Option, Some, None, refl, ap, ◌∙◌, subst, arith, append_assoc}
use Rattle.std.specs.Prelude.{◌↔◌}
use Rattle.std.proofs.lemmas.Bool.{cases_lt, cases_order, both_ways}
use Rattle.hz_base_model.specs.Pairs.{Pair}
use Rattle.hz_base_model.proofs.Elements.{Contains-nil, Contains-cons_cases}
use Rattle.hz_pipeline_model.specs.Accepting.Plays.{Tells, plays, accepts}
use Rattle.hz_pipeline_model.specs.Accepting.Fitting.{IsFuture, IsUnbroken}
use Rattle.hz_pipeline_model.specs.Accepting.Events.{Event, issue, advance}
use Rattle.hz_pipeline_model.specs.Accepting.Replay.{Pipeline, State, start, chosen, FitsAt, IsChoice, Accepted, calendar, left_by}
use Rattle.hz_pipeline_model.proofs.Accepting.FittingLaws.{future_fits, unbroken_run}
use Rattle.hz_pipeline_model.proofs.Accepting.PlayLaws.{run_plays, accepts_decides}
use Rattle.hz_pipeline_model.proofs.Accepting.ReplayLaws.{run_of_choices, run_more, run_split, chosen_run, runs_from_accepted, accepted_from_runs}
use Rattle.hz_why_model.specs.Pictures.{cycles_in}
use Rattle.hz_why_model.specs.Waits.{after, MayFitLater, IsLeastWait}
use Rattle.hz_why_model.proofs.Taking.{some_may}

module _ {U : Type 0} (m : Pipeline U) (t : List Event) (k : ℕ) where
  pub one_wait : (x y : Option ℕ) → IsLeastWait m t k x → IsLeastWait m t k y → x ≡ y
  one_wait None None a b = refl
  one_wait None (Some n) a b = absurd (a n b.0)
  one_wait (Some n) None a b = absurd (b n a.0)
  one_wait (Some n) (Some j) a b = ⊎_elim
      (λ (e : n ≡ j). ap Some e)
      (λ c. ⊎_elim (λ (low : n < j). absurd (b.1 n low a.0)) (λ (low : j < n). absurd (a.1 j low b.0)) c)
      (cases_order n j)

-- the cycles of pairs are below the count
below_end : {U : Type 0} (ps : List (Pair U)) (p : Pair U) → Contains ps p → p.cycle < cycles_in ps
below_end [] p is = absurd (Contains-nil p is)
below_end (q ∷ ps) p is = ⊎_elim
    (λ e. let same : q.cycle ≡ p.cycle = ap (λ (r : Pair _). r.cycle) e in omega arith)
    (λ there. let rest = below_end ps p there in omega arith)
    (Contains-cons_cases q p ps is)

module _ {U : Type 0} (m : Pipeline U) (s : State U) (k : ℕ) (unbroken : IsUnbroken m.statements s.reserved) where
  -- past the end nothing is planned
  nothing_planned : (n : ℕ) → cycles_in s.reserved ≤ n + s.now → IsFuture [] (after n s)
  nothing_planned n past = record {
    pairs = λ unit cycle. (
      λ h. absurd (Contains-nil _ h),
      λ h. let low = below_end s.reserved (record { unit = unit; cycle = n + s.now + cycle }) h in absurd (omega arith),
    );
  }

  -- so what fits there fits where nothing is reserved
  past_end : (n i : ℕ) → cycles_in s.reserved ≤ n + s.now → FitsAt m (after n s) k i ↔ FitsAt m start k i
  past_end n i past =
      let there = future_fits m.statements [] (chosen m k i) (after n s) (nothing_planned n past) unbroken in
      (λ h. (h.0, there.1 h.1), λ h. (h.0, there.0 h.1))

  -- what fits where nothing is reserved fits then, and the other way round
  pub fits_past : (n i : ℕ) → cycles_in s.reserved ≤ n → FitsAt m start k i → FitsAt m (after n s) k i
  fits_past n i past h = (past_end n i (omega arith)).1 h

  pub fits_from_past : (n i : ℕ) → cycles_in s.reserved ≤ n → FitsAt m (after n s) k i → FitsAt m start k i
  fits_from_past n i past h = (past_end n i (omega arith)).0 h

module _ {U : Type 0} (m : Pipeline U) (t : List Event) (choices : List ℕ) (is : IsChoice m t choices) where
  pub unbroken_choice : IsUnbroken m.statements (calendar m 0 t choices)
  unbroken_choice = unbroken_run m t (left_by m t choices) (run_of_choices m t choices is)

module _ {U : Type 0} (m : Pipeline U) (t : List Event) (k : ℕ) where
  pub never_fits_empty : Accepted m t → IsLeastWait m t k None → (i : ℕ) → FitsAt m start k i → ⊥
  never_fits_empty (choices, is) never i h =
      let end = cycles_in (calendar m 0 t choices) in
      never end (choices, is, (i, fits_past m (left_by m t choices) k (unbroken_choice m t choices is) end i (omega arith) h))

module _ {U : Type 0} (same : U → U → Bool) (tells : Tells same) (m : Pipeline U) where
  abbrev later : List Event → (k n : ℕ) → List Event
  later t k n = t ++ advance n ∷ issue k ∷ []

  -- an issue that fits so many cycles later is accepted after as many advances
  accepted_later : (t : List Event) (k n : ℕ) → MayFitLater m t k n → Accepted m (later t k n)
  accepted_later t k n (choices, is, (i, fits)) =
      let may = some_may same tells m (after n (left_by m t choices)) k i fits in
      let run = run_of_choices m t choices is in
      let advanced = run_more m start (left_by m t choices) (after n (left_by m t choices)) t (advance n) run refl in
      let issued = run_more m start (after n (left_by m t choices)) _ (t ++ advance n ∷ []) (issue k) advanced (may.0, may.1, refl) in
      subst (Accepted m) (append_assoc t (advance n ∷ []) (issue k ∷ [])) (accepted_from_runs m ((t ++ advance n ∷ []) ++ issue k ∷ []) (_, issued))

  -- and no other is
  later_accepted : (t : List Event) (k n : ℕ) → Accepted m (later t k n) → MayFitLater m t k n
  later_accepted t k n accepted =
      let run = runs_from_accepted m (later t k n) accepted in
      let parts = run_split m start run.0 t (advance n ∷ issue k ∷ []) run.1 in
      let (choices, is, led) = chosen_run m t parts.0 parts.1 in
      let (middle, moved, (last, (i, may, issued), end)) = parts.2 in
      let at : middle ≡ after n (left_by m t choices) = moved ∙ ap (after n) led in
      (choices, is, (i, subst (λ (q : State U). FitsAt m q k i) at may.fits))

  pub waits_accepted : (t : List Event) (k n : ℕ) → MayFitLater m t k n ↔ Accepted m (later t k n)
  waits_accepted t k n = (accepted_later t k n, later_accepted t k n)

  -- it fits so many cycles later, or it does not
  may_or_not : (t : List Event) (k n : ℕ) → MayFitLater m t k n ⊎ (MayFitLater m t k n → ⊥)
  may_or_not t k n = by_test _ refl
    where
      by_test : (b : Bool) → accepts same m (later t k n) ≡ b → MayFitLater m t k n ⊎ (MayFitLater m t k n → ⊥)
      by_test true e = inl (later_accepted t k n ((accepts_decides same tells m (later t k n)).0 e))
      by_test false e = inr (λ h. both_ways _ e ((accepts_decides same tells m (later t k n)).1 (accepted_later t k n h)))

-- how many cycles there are up to the last pair of some states
abbrev last_of : {U : Type 0} → List (State U) → ℕ
last_of [] = 0
last_of (s ∷ states) = max (cycles_in s.reserved) (last_of states)

below_last : {U : Type 0} (states : List (State U)) (s : State U) → Contains states s → cycles_in s.reserved ≤ last_of states
below_last [] s is = absurd (Contains-nil s is)
below_last (q ∷ states) s is = ⊎_elim
    (λ e. let same : cycles_in q.reserved ≡ cycles_in s.reserved = ap (λ (r : State _). cycles_in r.reserved) e in omega arith)
    (λ there. let rest = below_last states s there in omega arith)
    (Contains-cons_cases q s states is)

module _ {U : Type 0} (same : U → U → Bool) (tells : Tells same) (m : Pipeline U) (t : List Event) (k : ℕ) where
  one_more : (n : ℕ) → ((j : ℕ) → j < n → MayFitLater m t k j → ⊥) → (MayFitLater m t k n → ⊥) → (j : ℕ) → j < suc n → MayFitLater m t k j → ⊥
  one_more n none late j low h = ⊎_elim
      (λ (below : j < n). none j below h)
      (λ (at : n ≤ j). let e : j ≡ n = omega arith in late (subst (λ (i : ℕ). MayFitLater m t k i) e h))
      (cases_lt j n)

  abbrev Least : ℕ → Type 0
  Least n = ((w : ℕ) × IsLeastWait m t k (Some w)) ⊎ ((j : ℕ) → j < n → MayFitLater m t k j → ⊥)

  least_more : (n : ℕ) → ((j : ℕ) → j < n → MayFitLater m t k j → ⊥) → Least (suc n)
  least_more n none = ⊎_elim
      (λ fits. inl (n, (fits, none)))
      (λ unfit. inr (one_more n none unfit))
      (may_or_not same tells m t k n)

  least_below : (n : ℕ) → Least n
  least_below zero = inr (λ j low h. absurd (omega arith))
  least_below (suc n) = ⊎_elim inl (least_more n) (least_below n)

  -- after the last pair that any choices reserve it fits as where nothing is reserved
  abbrev end : ℕ
  end = last_of (plays same m start t)

  before_end : (choices : List ℕ) → IsChoice m t choices → cycles_in (calendar m 0 t choices) ≤ end
  before_end choices is = below_last (plays same m start t) (left_by m t choices) (run_plays same tells m t start (left_by m t choices) (run_of_choices m t choices is))

  fits_at_end : (n : ℕ) → end ≤ n → MayFitLater m t k n → MayFitLater m t k end
  fits_at_end n past (choices, is, (i, fits)) =
      let low = before_end choices is in
      let unbroken = unbroken_choice m t choices is in
      let s = left_by m t choices in
      (choices, is, (i, fits_past m s k unbroken end i low (fits_from_past m s k unbroken n i (omega arith) fits)))

  pub some_wait : (w : Option ℕ) × IsLeastWait m t k w
  some_wait = ⊎_elim
      (λ found. (Some found.0, found.1))
      (λ none. (None, never none))
      (least_below (suc end))
    where
      never : ((j : ℕ) → j < suc end → MayFitLater m t k j → ⊥) → (n : ℕ) → MayFitLater m t k n → ⊥
      never none n h = ⊎_elim
          (λ (low : n < suc end). none n low h)
          (λ (high : suc end ≤ n). none end (omega arith) (fits_at_end n (omega arith) h))
          (cases_lt n (suc end))
