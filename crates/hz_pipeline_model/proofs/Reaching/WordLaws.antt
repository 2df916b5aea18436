-- Events, and the same events column by column.
use Rattle.std.proofs.Common.{◌≡◌, ℕ, zero, suc, ◌+◌, ◌<◌, ◌≤◌, List, [], ◌∷◌, length, refl, sym, ap, ◌∙◌, subst, arith, ⊎_elim, replicate, zero-add, cond}
use Rattle.std.proofs.lemmas.Bool.{cases_lt, lt-ltb, le-ltb}
use Rattle.std.proofs.lemmas.List.{map-append}
use Rattle.std.proofs.lemmas.List.Elements.{All-nil, All-cons, All-append, All-replicate}
use Rattle.hz_base_model.specs.Pairs.{Pair}
use Rattle.hz_pipeline_model.specs.Accepting.Replay.{Pipeline, State, Step, Plays, start, alternatives_at}
use Rattle.hz_pipeline_model.specs.Accepting.Events.{Event, issue, advance, ask}
use Rattle.hz_pipeline_model.proofs.Accepting.ReplayLaws.{run_split, run_join}
use Rattle.hz_pipeline_model.specs.Reaching.Reach.{Leaves}
use Rattle.hz_pipeline_model.specs.Reaching.Columns.{AreColumns, event_at, events_at}
use Rattle.hz_pipeline_model.proofs.Reaching.Spelling.{spelled}
use Rattle.hz_pipeline_model.proofs.Reaching.LeavingLaws.{plays_from_leaves, leaves_from_plays}

-- the event of a class, and the advance
pub event_of_class : (columns k : ℕ) → k < columns → event_at columns k ≡ issue k
event_of_class columns k low = ap (λ b. cond b (issue k) (advance 1)) (lt-ltb k columns low)

pub event_of_advance : (columns : ℕ) → event_at columns columns ≡ advance 1
event_of_advance columns =
    let same : columns ≤ columns = omega arith in
    ap (λ b. cond b (issue columns) (advance 1)) (le-ltb columns columns same)

-- every issue is of a class that is there
abbrev pub IsInside : ℕ → List Event → Type 0
IsInside columns [] = Unit {0}
IsInside columns (issue k ∷ t) = (k < columns) × IsInside columns t
IsInside columns (advance n ∷ t) = IsInside columns t
IsInside columns (ask a u ∷ t) = IsInside columns t

pub spelled_columns : (columns : ℕ) (t : List Event) → IsInside columns t → AreColumns columns (spelled columns t)
spelled_columns columns [] inside = All-nil (λ (c : ℕ). c ≤ columns)
spelled_columns columns (issue k ∷ t) inside =
    let low : k ≤ columns = omega (arith, inside.0) in
    All-cons (λ (c : ℕ). c ≤ columns) k (spelled columns t) low (spelled_columns columns t inside.1)
spelled_columns columns (ask a u ∷ t) inside = spelled_columns columns t inside
spelled_columns columns (advance n ∷ t) inside =
    let same : columns ≤ columns = omega arith in
    All-append (λ (c : ℕ). c ≤ columns) (replicate n columns) (spelled columns t) (All-replicate (λ (c : ℕ). c ≤ columns) n columns same) (spelled_columns columns t inside)

module _ {U : Type 0} (m : Pipeline U) (columns : ℕ) (none : (k : ℕ) → columns ≤ k → alternatives_at m k ≡ []) where
  -- an issue that can be made is of a class that is there
  class_low : (k i : ℕ) → i < length (alternatives_at m k) → k < columns
  class_low k i within = ⊎_elim
      (λ (low : k < columns). low)
      (λ (high : columns ≤ k). absurd (let n = ap length (none k high) in omega arith))
      (cases_lt k columns)

  pub inside_of_run : (t : List Event) (s q : State U) → Plays m s t q → IsInside columns t
  inside_of_run [] s q run = tt
  inside_of_run (issue k ∷ t) s q (middle, (i, may, after), run) = (class_low k i may.fits.0, inside_of_run t middle q run)
  inside_of_run (advance n ∷ t) s q (middle, step, run) = inside_of_run t middle q run
  inside_of_run (ask a u ∷ t) s q (middle, step, run) = inside_of_run t middle q run

  -- the advance n times
  advances : (n : ℕ) (s : State U) → Plays m s (events_at columns (replicate n columns)) (record { reserved = s.reserved; now = n + s.now })
  advances zero s = rw zero-add refl
  advances (suc n) s =
      let next : State U = record { reserved = s.reserved; now = 1 + s.now } in
      let time : n + (1 + s.now) ≡ suc n + s.now = omega arith in
      let step : Step m s (advance 1) next = refl in (
        next,
        subst (λ (e : Event). Step m s e next) (sym (event_of_advance columns)) step,
        subst (λ (c : ℕ). Plays m next (events_at columns (replicate n columns)) (record { reserved = s.reserved; now = c })) time (advances n next),
      )

  advances_only : (n : ℕ) (s q : State U) → Plays m s (events_at columns (replicate n columns)) q → q ≡ record { reserved = s.reserved; now = n + s.now }
  advances_only zero s q run = rw zero-add run
  advances_only (suc n) s q (middle, step, run) =
      let one : Step m s (advance 1) middle = subst (λ (e : Event). Step m s e middle) (event_of_advance columns) step in
      let time : n + (1 + s.now) ≡ suc n + s.now = omega arith in
      advances_only n middle q run ∙ ap (λ (x : State U). let r : State U = record { reserved = x.reserved; now = n + x.now } in r) one
      ∙ ap (λ (c : ℕ). let r : State U = record { reserved = s.reserved; now = c } in r) time

  pub run_spelled : (t : List Event) (s q : State U) → Plays m s t q → Plays m s (events_at columns (spelled columns t)) q
  run_spelled [] s q run = run
  run_spelled (issue k ∷ t) s q (middle, (i, may, after), run) = (
    middle,
    subst (λ (e : Event). Step m s e middle) (sym (event_of_class columns k (class_low k i may.fits.0))) (i, may, after),
    run_spelled t middle q run,
  )
  run_spelled (ask a u ∷ t) s q (middle, step, run) = run_spelled t s q (subst (λ (x : State U). Plays m x t q) step run)
  run_spelled (advance n ∷ t) s q (middle, step, run) =
      let next : State U = record { reserved = s.reserved; now = n + s.now } in
      let rest : Plays m next (events_at columns (spelled columns t)) q = run_spelled t next q (subst (λ (x : State U). Plays m x t q) step run) in
      subst (λ (e : List Event). Plays m s e q) (sym (map-append (event_at columns) (replicate n columns) (spelled columns t)))
      (run_join m s next q (events_at columns (replicate n columns)) (events_at columns (spelled columns t)) (advances n s) rest)

  pub run_from_spelled : (t : List Event) (s q : State U) → IsInside columns t → Plays m s (events_at columns (spelled columns t)) q → Plays m s t q
  run_from_spelled [] s q inside run = run
  run_from_spelled (issue k ∷ t) s q inside (middle, step, run) = (
    middle,
    subst (λ (e : Event). Step m s e middle) (event_of_class columns k inside.0) step,
    run_from_spelled t middle q inside.1 run,
  )
  run_from_spelled (ask a u ∷ t) s q inside run = (s, refl, run_from_spelled t s q inside run)
  run_from_spelled (advance n ∷ t) s q inside run =
      let next : State U = record { reserved = s.reserved; now = n + s.now } in
      let parts = run_split m s q (events_at columns (replicate n columns)) (events_at columns (spelled columns t))
      (subst (λ (e : List Event). Plays m s e q) (map-append (event_at columns) (replicate n columns) (spelled columns t)) run) in
      let same = advances_only n s parts.0 parts.1 in
      (next, refl, run_from_spelled t next q inside (subst (λ (x : State U). Plays m x (events_at columns (spelled columns t)) q) same parts.2))

  -- the same is left
  pub leaves_spelled : (t : List Event) (grid : List (Pair U)) → Leaves m t grid → Leaves m (events_at columns (spelled columns t)) grid
  leaves_spelled t grid leaves =
      let run = plays_from_leaves m t grid leaves in
      leaves_from_plays m (events_at columns (spelled columns t)) grid (run.0, run_spelled t start run.0 run.1, run.2)

  pub leaves_from_spelled : (t : List Event) (grid : List (Pair U)) → IsInside columns t → Leaves m (events_at columns (spelled columns t)) grid → Leaves m t grid
  leaves_from_spelled t grid inside leaves =
      let run = plays_from_leaves m (events_at columns (spelled columns t)) grid leaves in
      leaves_from_plays m t grid (run.0, run_from_spelled t start run.0 inside run.1, run.2)

  pub inside_of_leaves : (t : List Event) (grid : List (Pair U)) → Leaves m t grid → IsInside columns t
  inside_of_leaves t grid leaves =
      let run = plays_from_leaves m t grid leaves in
      inside_of_run t start run.0 run.1
