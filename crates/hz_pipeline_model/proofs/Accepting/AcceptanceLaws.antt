-- Acceptance: prefixes, advances, and the first refused event.
use Rattle.std.proofs.Common.{◌≡◌, ℕ, ◌+◌, ◌<◌, ◌≤◌, List, [], ◌∷◌, ◌++◌, take, drop, get_or, refl, sym, ap, ◌∙◌, subst, arith, suc, add-one, ⊎_elim, Some}
use Rattle.std.specs.Prelude.{◌↔◌, slice_get}
use Rattle.std.proofs.lemmas.Bool.{cases_order}
use Rattle.std.proofs.lemmas.List.{map-append, take_more, take-append-drop, take-take}
use Rattle.std.proofs.lemmas.Option.{slice_get-get_or, get_or_from_slice_get}
use Rattle.hz_base_model.specs.Pairs.{placed}
use Rattle.hz_pipeline_model.specs.Accepting.Replay.{Pipeline, State, Plays, MayTake, Accepted, FirstRefused, start, chosen}
use Rattle.hz_pipeline_model.specs.Accepting.Events.{Event, issue, advance, ask}
use Rattle.hz_description_model.proofs.Reservations.FitLaws.{placed_placed, fits_moved, fits_back}
use Rattle.hz_pipeline_model.proofs.Accepting.ReplayLaws.{run_split, run_join, run_more, runs_from_accepted, accepted_from_runs}

module _ {U : Type 0} (m : Pipeline U) where
  pub prefix_accepted : (xs ys : List Event) → Accepted m (xs ++ ys) → Accepted m xs
  prefix_accepted xs ys h =
      let run = runs_from_accepted m (xs ++ ys) h in
      let parts = run_split m start run.0 xs ys run.1 in
      accepted_from_runs m xs (parts.0, parts.1)

  -- an advance is never refused
  pub advance_accepted : (xs : List Event) (n : ℕ) → Accepted m xs → Accepted m (xs ++ advance n ∷ [])
  advance_accepted xs n h =
      let run = runs_from_accepted m xs h in
      accepted_from_runs m (xs ++ advance n ∷ []) (record { reserved = (run.0).reserved; now = n + (run.0).now }, run_more m start run.0 _ xs (advance n) run.1 refl)

  -- an ask is never refused
  pub ask_accepted : (xs : List Event) (a u : ℕ) → Accepted m xs → Accepted m (xs ++ ask a u ∷ [])
  ask_accepted xs a u h =
      let run = runs_from_accepted m xs h in
      accepted_from_runs m (xs ++ ask a u ∷ []) (run.0, run_more m start run.0 run.0 xs (ask a u) run.1 refl)

  -- two advances are one
  one_advance : (a b : ℕ) (ys : List Event) (s q : State U) → Plays m s (advance a ∷ advance b ∷ ys) q → Plays m s (advance (a + b) ∷ ys) q
  one_advance a b ys s q (first, e, (second, f, run)) =
      let time : b + (a + s.now) ≡ a + b + s.now = omega arith in
      (second, f ∙ ap (λ (x : State U). record { reserved = x.reserved; now = b + x.now }) e ∙ ap (λ (c : ℕ). record { reserved = s.reserved; now = c }) time, run)

  two_advances : (a b : ℕ) (ys : List Event) (s q : State U) → Plays m s (advance (a + b) ∷ ys) q → Plays m s (advance a ∷ advance b ∷ ys) q
  two_advances a b ys s q (middle, e, run) =
      let time : a + b + s.now ≡ b + (a + s.now) = omega arith in
      (record { reserved = s.reserved; now = a + s.now }, refl, (middle, e ∙ ap (λ (c : ℕ). record { reserved = s.reserved; now = c }) time, run))

  pub advances_run : (a b : ℕ) (ys : List Event) (s q : State U) → Plays m s (advance a ∷ advance b ∷ ys) q ↔ Plays m s (advance (a + b) ∷ ys) q
  advances_run a b ys s q = (one_advance a b ys s q, two_advances a b ys s q)

  -- where parts of lists of events run alike, the lists are accepted alike
  runs_alike : (xs ys zs : List Event) → ((s q : State U) → Plays m s ys q → Plays m s zs q) → Accepted m (xs ++ ys) → Accepted m (xs ++ zs)
  runs_alike xs ys zs same h =
      let run = runs_from_accepted m (xs ++ ys) h in
      let parts = run_split m start run.0 xs ys run.1 in
      accepted_from_runs m (xs ++ zs) (run.0, run_join m start parts.0 run.0 xs zs parts.1 (same parts.0 run.0 parts.2))

  pub advances_accepted : (a b : ℕ) (xs ys : List Event) → Accepted m (xs ++ advance a ∷ advance b ∷ ys) ↔ Accepted m (xs ++ advance (a + b) ∷ ys)
  advances_accepted a b xs ys = (runs_alike xs _ _ (one_advance a b ys), runs_alike xs _ _ (two_advances a b ys))

  -- a state with all of it moved n cycles later
  abbrev moved : ℕ → State U → State U
  moved n s = record { reserved = placed n s.reserved; now = n + s.now }

  may_moved : (n : ℕ) (s : State U) (k i : ℕ) → MayTake m s k i → MayTake m (moved n s) k i
  may_moved n s k i h = record {
    fits = (h.fits.0, fits_moved m.statements s.reserved (chosen m k i) n s.now h.fits.1);
    first = λ t j early fit. h.first t j early (fit.0, fits_back m.statements s.reserved (chosen m k j) n s.now fit.1);
  }

  may_back : (n : ℕ) (s : State U) (k i : ℕ) → MayTake m (moved n s) k i → MayTake m s k i
  may_back n s k i h = record {
    fits = (h.fits.0, fits_back m.statements s.reserved (chosen m k i) n s.now h.fits.1);
    first = λ t j early fit. h.first t j early (fit.0, fits_moved m.statements s.reserved (chosen m k j) n s.now fit.1);
  }

  issued_moved : (n k i : ℕ) (s : State U) → record { reserved = placed n s.reserved ++ placed (n + s.now) (chosen m k i); now = n + s.now } ≡ moved n (record { reserved = s.reserved ++ placed s.now (chosen m k i); now = s.now })
  issued_moved n k i s = rw (map-append, placed_placed) refl

  run_moved : (n : ℕ) (t : List Event) (s q : State U) → Plays m s t q → Plays m (moved n s) t (moved n q)
  run_moved n [] s q r = ap (moved n) r
  run_moved n (advance a ∷ t) s q (middle, e, run) =
      let time : n + (a + s.now) ≡ a + (n + s.now) = omega arith in
      (moved n middle, ap (moved n) e ∙ ap (λ (c : ℕ). record { reserved = placed n s.reserved; now = c }) time, run_moved n t middle q run)
  run_moved n (ask a u ∷ t) s q (middle, e, run) = (moved n middle, ap (moved n) e, run_moved n t middle q run)
  run_moved n (issue k ∷ t) s q (middle, (i, may, e), run) =
      (moved n middle, (i, may_moved n s k i may, ap (moved n) e ∙ sym (issued_moved n k i s)), run_moved n t middle q run)

  run_back : (n : ℕ) (t : List Event) (s p : State U) → Plays m (moved n s) t p → (q : State U) × Plays m s t q
  run_back n [] s p r = (s, refl)
  run_back n (advance a ∷ t) s p (middle, e, run) =
      let time : a + (n + s.now) ≡ n + (a + s.now) = omega arith in
      let same : middle ≡ moved n (record { reserved = s.reserved; now = a + s.now }) = e ∙ ap (λ (c : ℕ). record { reserved = placed n s.reserved; now = c }) time in
      let rest = run_back n t (record { reserved = s.reserved; now = a + s.now }) p (subst (λ (x : State U). Plays m x t p) same run) in
      (rest.0, (_, refl, rest.1))
  run_back n (ask a u ∷ t) s p (middle, e, run) =
      let rest = run_back n t s p (subst (λ (x : State U). Plays m x t p) e run) in
      (rest.0, (s, refl, rest.1))
  run_back n (issue k ∷ t) s p (middle, (i, may, e), run) =
      let rest = run_back n t (record { reserved = s.reserved ++ placed s.now (chosen m k i); now = s.now }) p (subst (λ (x : State U). Plays m x t p) (e ∙ issued_moved n k i s) run) in
      (rest.0, (_, (i, may_back n s k i may, refl), rest.1))

  -- all events n cycles later
  pub moved_accepted : (n : ℕ) (t : List Event) → Accepted m (advance n ∷ t) ↔ Accepted m t
  moved_accepted n t = (down, up)
    where
      down : Accepted m (advance n ∷ t) → Accepted m t
      down h =
          let run = runs_from_accepted m (advance n ∷ t) h in
          accepted_from_runs m t (run_back n t start run.0 (subst (λ (x : State U). Plays m x t run.0) run.1.1 run.1.2))

      up : Accepted m t → Accepted m (advance n ∷ t)
      up h =
          let run = runs_from_accepted m t h in
          accepted_from_runs m (advance n ∷ t) (moved n run.0, (moved n start, refl, run_moved n t start run.0 run.1))

  -- a first refused event is an issue
  pub refused_issue : (t : List Event) (i : ℕ) → FirstRefused m t i → (k : ℕ) × (slice_get t i ≡ Some (issue k))
  refused_issue t i h = by_event (get_or t i (advance 0)) (slice_get-get_or t i (advance 0) h.within)
    where
      by_event : (e : Event) → slice_get t i ≡ Some e → (k : ℕ) × (slice_get t i ≡ Some (issue k))
      by_event (issue k) is = (k, is)
      by_event (ask a u) is =
          let here = get_or_from_slice_get t i (ask a u) (advance 0) is in
          let within = h.within in
          let front : take (i + 1) t ≡ take i t ++ ask a u ∷ [] = take_more t i (advance 0) within ∙ ap (λ (e : Event). take i t ++ e ∷ []) here in
          absurd (h.refused (subst (Accepted m) (sym front) (ask_accepted (take i t) a u h.before)))
      by_event (advance n) is =
          let here = get_or_from_slice_get t i (advance n) (advance n) is in
          let within = h.within in
          let front : take (i + 1) t ≡ take i t ++ advance n ∷ [] = take_more t i (advance n) within ∙ ap (λ (e : Event). take i t ++ e ∷ []) here in
          absurd (h.refused (subst (Accepted m) (sym front) (advance_accepted (take i t) n h.before)))

  -- what is shorter is accepted too
  pub shorter_accepted : (t : List Event) (i j : ℕ) → i ≤ j → Accepted m (take j t) → Accepted m (take i t)
  shorter_accepted t i j less h =
      let parts : take i t ++ drop i (take j t) ≡ take j t = subst (λ (xs : List Event). xs ++ drop i (take j t) ≡ take j t) (take-take i j t less) (take-append-drop i (take j t)) in
      prefix_accepted (take i t) (drop i (take j t)) (subst (Accepted m) (sym parts) h)

  pub one_refused : (t : List Event) (i j : ℕ) → FirstRefused m t i → FirstRefused m t j → i ≡ j
  one_refused t i j h k = ⊎_elim (λ e. e)
      (λ c. ⊎_elim
      (λ (less : i < j). absurd (h.refused (shorter_accepted t (i + 1) j (omega arith) k.before)))
      (λ (less : j < i). absurd (k.refused (shorter_accepted t (j + 1) i (omega arith) h.before))) c)
      (cases_order i j)

  pub accepted_or_refused : (t : List Event) (i : ℕ) → Accepted m t → FirstRefused m t i → ⊥
  accepted_or_refused t i h k = k.refused (prefix_accepted (take (i + 1) t) (drop (i + 1) t) (subst (Accepted m) (sym (take-append-drop (i + 1) t)) h))

  -- the first refused event moves with the events
  pub moved_refused : (n : ℕ) (t : List Event) (i : ℕ) → FirstRefused m (advance n ∷ t) (i + 1) ↔ FirstRefused m t i
  moved_refused n t i = rw add-one (down, up)
    where
      down : FirstRefused m (advance n ∷ t) (suc i) → FirstRefused m t i
      down h = record {
        within = omega (arith, h.within);
        before = (moved_accepted n (take i t)).0 h.before;
        refused = λ k. h.refused (rw add-one ((moved_accepted n (take (suc i) t)).1 (rw add-one at k)));
      }

      up : FirstRefused m t i → FirstRefused m (advance n ∷ t) (suc i)
      up h = record {
        within = omega (arith, h.within);
        before = (moved_accepted n (take i t)).1 h.before;
        refused = λ k. h.refused (rw add-one ((moved_accepted n (take (suc i) t)).0 (rw add-one at k)));
      }
