-- Pipelines whose classes have the same alternatives under other numbers run alike.
use Rattle.std.proofs.Common.{◌≡◌, ℕ, ◌<◌, List, [], ◌∷◌, ◌++◌, length, slice_get, sym, ap, ◌∙◌, subst}
use Rattle.std.specs.Prelude.{◌↔◌}
use Rattle.hz_base_model.specs.Pairs.{Pair, placed}
use Rattle.hz_description_model.specs.Reservations.Alternatives.{Alternative}
use Rattle.hz_description_model.specs.Reservations.Sets.{Statement, Fits}
use Rattle.hz_pipeline_model.specs.Accepting.Events.{Event, issue, advance, ask}
use Rattle.hz_pipeline_model.specs.Accepting.Replay.{Pipeline, Treatment, first_fit, State, start, MayTake, FitsAt, Accepted, chosen, pairs_at, Step, Plays}
use Rattle.hz_pipeline_model.proofs.Accepting.ReplayLaws.{runs_from_accepted, accepted_from_runs}
use Rattle.hz_pipeline_model.specs.Reaching.Reach.{Leaves, IsLeft}
use Rattle.hz_pipeline_model.proofs.Reaching.LeavingLaws.{plays_from_leaves, leaves_from_plays}
use Rattle.hz_pipeline_model.specs.Compiling.Moved.{IsMoved}
use Rattle.hz_pipeline_model.proofs.Compiling.MovedEvents.{moved, moved_event}
use Rattle.hz_pipeline_model.specs.Accepting.Asking.{IsHeld}
use Rattle.hz_pipeline_model.proofs.Accepting.AskLaws.{held_by_run}

module _ {U : Type 0} (statements : List (Statement U)) (treatment : Treatment) (s : State U) where
  -- an alternative of a list fits, and may be taken
  abbrev FitsOf : List (Alternative U) → ℕ → Type 0
  FitsOf alternatives i = (i < length alternatives) × Fits statements s.reserved (pairs_at (slice_get alternatives i)) s.now

  abbrev TakesOf : List (Alternative U) → ℕ → Type 0
  TakesOf alternatives i = FitsOf alternatives i × (treatment ≡ first_fit → (j : ℕ) → j < i → FitsOf alternatives j → ⊥)

module _ {U : Type 0} (f : ℕ → ℕ) (m o : Pipeline U) (same : IsMoved f m o) where
  fits_there : (s : State U) (k i : ℕ) → FitsAt m s k i → FitsAt o s (f k) i
  fits_there s k i h =
      let there = subst (λ (as' : List (Alternative U)). FitsOf m.statements m.treatment s as' i) (same.alternatives k) h in
      (there.0, (same.statements s.reserved (chosen o (f k) i) s.now).0 there.1)

  fits_back : (s : State U) (k i : ℕ) → FitsAt o s (f k) i → FitsAt m s k i
  fits_back s k i h =
      subst (λ (as' : List (Alternative U)). FitsOf m.statements m.treatment s as' i) (sym (same.alternatives k)) (h.0, (same.statements s.reserved (chosen o (f k) i) s.now).1 h.1)

  chosen_same : (k i : ℕ) → chosen m k i ≡ chosen o (f k) i
  chosen_same k i = ap (λ (as' : List (Alternative U)). pairs_at (slice_get as' i)) (same.alternatives k)

  take_there : (s : State U) (k i : ℕ) → MayTake m s k i → MayTake o s (f k) i
  take_there s k i h = record { fits = fits_there s k i h.fits; first = λ t j low fit. h.first (same.treatment ∙ t) j low (fits_back s k j fit) }

  take_back : (s : State U) (k i : ℕ) → MayTake o s (f k) i → MayTake m s k i
  take_back s k i h = record { fits = fits_back s k i h.fits; first = λ t j low fit. h.first (sym same.treatment ∙ t) j low (fits_there s k j fit) }

  step_there : (s : State U) (e : Event) (q : State U) → Step m s e q → Step o s (moved_event f e) q
  step_there s (advance n) q h = h
  step_there s (ask a u) q h = h
  step_there s (issue k) q (i, may, is) = (i, take_there s k i may, is ∙ ap (λ (ps : List (Pair U)). record { reserved = s.reserved ++ placed s.now ps; now = s.now }) (chosen_same k i))

  step_back : (s : State U) (e : Event) (q : State U) → Step o s (moved_event f e) q → Step m s e q
  step_back s (advance n) q h = h
  step_back s (ask a u) q h = h
  step_back s (issue k) q (i, may, is) = (i, take_back s k i may, is ∙ ap (λ (ps : List (Pair U)). record { reserved = s.reserved ++ placed s.now ps; now = s.now }) (sym (chosen_same k i)))

  pub run_there : (s : State U) (t : List Event) (q : State U) → Plays m s t q → Plays o s (moved f t) q
  run_there s [] q h = h
  run_there s (e ∷ t) q (middle, step, rest) = (middle, step_there s e middle step, run_there middle t q rest)

  pub run_back : (s : State U) (t : List Event) (q : State U) → Plays o s (moved f t) q → Plays m s t q
  run_back s [] q h = h
  run_back s (e ∷ t) q (middle, step, rest) = (middle, step_back s e middle step, run_back middle t q rest)

  pub accepted_moved : (t : List Event) → Accepted m t ↔ Accepted o (moved f t)
  accepted_moved t = (
    λ h. let run = runs_from_accepted m t h in accepted_from_runs o (moved f t) (run.0, run_there start t run.0 run.1),
    λ h. let run = runs_from_accepted o (moved f t) h in accepted_from_runs m t (run.0, run_back start t run.0 run.1),
  )

  pub leaves_there : (t : List Event) (grid : List (Pair U)) → Leaves m t grid → Leaves o (moved f t) grid
  leaves_there t grid h = let run = plays_from_leaves m t grid h in leaves_from_plays o (moved f t) grid (run.0, run_there start t run.0 run.1, run.2)

  pub leaves_back : (t : List Event) (grid : List (Pair U)) → Leaves o (moved f t) grid → Leaves m t grid
  leaves_back t grid h = let run = plays_from_leaves o (moved f t) grid h in leaves_from_plays m t grid (run.0, run_back start t run.0 run.1, run.2)

  pub left_there : (t : List Event) (grids : List (List (Pair U))) → IsLeft m t grids → IsLeft o (moved f t) grids
  left_there t grids h = record { different = h.different; all = λ g l. h.all g (leaves_back t g l); only = λ g c. leaves_there t g (h.only g c) }

  pub left_back : (t : List Event) (grids : List (List (Pair U))) → IsLeft o (moved f t) grids → IsLeft m t grids
  left_back t grids h = record { different = h.different; all = λ g l. h.all g (leaves_there t g l); only = λ g c. leaves_back t g (h.only g c) }

  -- what is held is the same
  pub held_moved : m.treatment ≡ first_fit → (t : List Event) → Accepted m t → (unit : U) → IsHeld m t unit ↔ IsHeld o (moved f t) unit
  held_moved first t accepted unit =
      let run = runs_from_accepted m t accepted in
      let here = held_by_run m first t run.0 run.1 unit in
      let there = held_by_run o (sym same.treatment ∙ first) (moved f t) run.0 (run_there start t run.0 run.1) unit in
      (λ h. there.1 (here.0 h), λ h. here.1 (there.0 h))
