-- What stands reserved `cycle_limit` cycles after events: nothing. From there on the same events are accepted as from the start.
use Rattle.std.proofs.Common.{◌≡◌, ℕ, ◌+◌, ◌<◌, List, [], ◌∷◌, ◌++◌, Contains, refl, sym, ap, ◌∙◌, subst, arith, ⊎_elim}
use Rattle.std.specs.Prelude.{◌↔◌}
use Rattle.std.proofs.lemmas.List.Elements.{Contains-append_cases}
use Rattle.hz_base_model.specs.Limits.{cycle_limit}
use Rattle.hz_base_model.specs.Pairs.{Pair, later, placed}
use Rattle.hz_base_model.proofs.Elements.{Contains-nil, Contains-head, Contains-cons_cases, Contains-from_map}
use Rattle.hz_pipeline_model.specs.Accepting.Events.{Event, issue, advance, ask}
use Rattle.hz_pipeline_model.specs.Accepting.Replay.{Pipeline, State, Step, Plays, start, chosen, Accepted, left_by, first_fit}
use Rattle.hz_pipeline_model.specs.Accepting.Fitting.{IsFuture, IsUnbroken}
use Rattle.hz_pipeline_model.proofs.Accepting.ReplayLaws.{runs_from_accepted, accepted_from_runs}
use Rattle.hz_pipeline_model.proofs.Accepting.FittingLaws.{unbroken_empty, unbroken_run}
use Rattle.hz_pipeline_model.specs.Reaching.Reach.{Leaves, IsLeft}
use Rattle.hz_pipeline_model.proofs.Accepting.ReplayLaws.{run_of_choices}
use Rattle.hz_pipeline_model.proofs.Reaching.PathLaws.{empty_future}
use Rattle.hz_pipeline_model.proofs.Reaching.StepLaws.{step_from_leads, leads_from_step, unbroken_step, one_future}
use Rattle.hz_pipeline_model.specs.Accepting.Asking.{IsHeld}
use Rattle.hz_pipeline_model.proofs.Reaching.HeldLaws.{held_is_present}
use Rattle.hz_pipeline_model.proofs.Reaching.LeavingLaws.{leaves_from_plays}

-- the pairs of every alternative stand in cycles below `cycle_limit`
abbrev pub IsShort : {U : Type 0} → Pipeline U → Type 0
IsShort {U} m = (k i : ℕ) (p : Pair U) → Contains (chosen m k i) p → p.cycle < cycle_limit

-- what `cycle_limit` cycles lead to
abbrev pub settled : List Event → List Event
settled t = t ++ advance cycle_limit ∷ []

module _ {U : Type 0} (m : Pipeline U) where
  -- runs over two lists of events

  pub run_cut : (xs ys : List Event) (s q : State U) → Plays m s (xs ++ ys) q → (r : State U) × Plays m s xs r × Plays m r ys q
  run_cut [] ys s q h = (s, refl, h)
  run_cut (e ∷ xs) ys s q (middle, step, rest) =
      let (r, one, two) = run_cut xs ys middle q rest in
      (r, (middle, step, one), two)

  pub run_joined : (xs ys : List Event) (s r q : State U) → Plays m s xs r → Plays m r ys q → Plays m s (xs ++ ys) q
  run_joined [] ys s r q one two = subst (λ (x : State U). Plays m x ys q) one two
  run_joined (e ∷ xs) ys s r q (middle, step, one) two = (middle, step, run_joined xs ys middle r q one two)

  -- what can be run from one state can be run from another with the same future, to one with the same future
  pub run_there : (t : List Event) (grid : List (Pair U)) (s r q : State U) → IsFuture grid s → IsFuture grid r → IsUnbroken m.statements s.reserved → IsUnbroken m.statements r.reserved → Plays m s t q
      → (o : State U) × Plays m r t o × (left : List (Pair U)) × IsFuture left q × IsFuture left o
  run_there [] grid s r q here there whole sound h = (r, refl, grid, subst (IsFuture grid) (sym h) here, there)
  run_there (e ∷ t) grid s r q here there whole sound (middle, step, rest) =
      let (next, leads, after) = leads_from_step m grid s here whole e middle step in
      let (mate, other, beyond) = step_from_leads m grid r there sound e next leads in
      let (o, run, left, one, two) = run_there t next middle mate q after beyond (unbroken_step m grid s here whole e middle step) (unbroken_step m grid r there sound e mate other) rest in
      (o, (mate, other, run), left, one, two)

  -- cycles are always accepted
  pub accepted_settled : (t : List Event) → Accepted m t → Accepted m (settled t)
  accepted_settled t h =
      let (q, run) = runs_from_accepted m t h in
      let last : State U = record { reserved = q.reserved; now = cycle_limit + q.now } in
      accepted_from_runs m (settled t) (last, run_joined t (advance cycle_limit ∷ []) start q last run (last, refl, refl))

  module _ (short : IsShort m) where
    -- no pair stands `cycle_limit` cycles from now, or later
    abbrev IsNear : State U → Type 0
    IsNear s = (p : Pair U) → Contains s.reserved p → p.cycle < s.now + cycle_limit

    near_step : (e : Event) (s q : State U) → IsNear s → Step m s e q → IsNear q
    near_step (advance n) s q near step = subst IsNear (sym step) (λ p h. let low = near p h in omega arith)
    near_step (ask a u) s q near step = subst IsNear (sym step) near
    near_step (issue k) s q near (i, may, step) = subst IsNear (sym step) (λ p h. ⊎_elim
        (near p)
        (λ (new : Contains (placed s.now (chosen m k i)) p).
        let (o, inside, same) = Contains-from_map (later s.now) (chosen m k i) p new in
        let low = short k i o inside in
        let time : s.now + o.cycle ≡ p.cycle = ap (λ (x : Pair U). x.cycle) same in
        omega arith)
        (Contains-append_cases s.reserved (placed s.now (chosen m k i)) p h))

    near_run : (t : List Event) (s q : State U) → IsNear s → Plays m s t q → IsNear q
    near_run [] s q near h = subst IsNear (sym h) near
    near_run (e ∷ t) s q near (middle, step, rest) = near_run t middle q (near_step e s middle near step) rest

    near_start : IsNear start
    near_start p h = absurd (Contains-nil p h)

    -- `cycle_limit` cycles later nothing stands
    pub nothing_stands : (t : List Event) (q : State U) → Plays m start (settled t) q → IsFuture [] q
    nothing_stands t q h =
        let (r, one, (middle, step, last)) = run_cut t (advance cycle_limit ∷ []) start q h in
        let near = near_run t start r near_start one in
        let is : q ≡ record { reserved = r.reserved; now = cycle_limit + r.now } = last ∙ step in
        subst (IsFuture []) (sym is) (record {
          pairs = λ unit cycle. (
            λ none. absurd (Contains-nil _ none),
            λ there. absurd (let low = near _ there in omega arith),
          );
        })

    -- the run of one's own choices
    pub settled_future : (t : List Event) → (a : Accepted m (settled t)) → IsFuture [] (left_by m (settled t) a.0)
    settled_future t (choices, is) = nothing_stands t (left_by m (settled t) choices) (run_of_choices m (settled t) choices is)

    -- after `cycle_limit` cycles the same is accepted as from the start
    pub accepted_after : (t u : List Event) → Accepted m (settled t) → Accepted m (settled t ++ u) ↔ Accepted m u
    accepted_after t u before = (
      λ h.
          let (q, run) = runs_from_accepted m (settled t ++ u) h in
          let (s, one, two) = run_cut (settled t) u start q run in
          let (o, other, left, this, that) = run_there u [] s start q (nothing_stands t s one) empty_future (unbroken_run m (settled t) s one) (unbroken_empty m.statements) two in
          accepted_from_runs m u (o, other),
      λ h.
          let (s, one) = runs_from_accepted m (settled t) before in
          let (q, run) = runs_from_accepted m u h in
          let (o, other, left, this, that) = run_there u [] start s q empty_future (nothing_stands t s one) (unbroken_empty m.statements) (unbroken_run m (settled t) s one) run in
          accepted_from_runs m (settled t ++ u) (o, run_joined (settled t) u start s o one other),
    )

    -- and then the same is held
    pub held_after : m.treatment ≡ first_fit → (t u : List Event) → Accepted m (settled t ++ u) → (unit : U) → IsHeld m (settled t ++ u) unit ↔ IsHeld m u unit
    held_after first t u h unit =
        let (q, run) = runs_from_accepted m (settled t ++ u) h in
        let (s, one, two) = run_cut (settled t) u start q run in
        let (o, other, left, this, that) = run_there u [] s start q (nothing_stands t s one) empty_future (unbroken_run m (settled t) s one) (unbroken_empty m.statements) two in
        let here = held_is_present m first (settled t ++ u) left (leaves_from_plays m (settled t ++ u) left (q, run, this)) unit in
        let there = held_is_present m first u left (leaves_from_plays m u left (o, other, that)) unit in
        (λ held. there.1 (here.0 held), λ held. here.1 (there.0 held))

    -- `cycle_limit` cycles leave the empty grid alone
    pub left_settled : (t : List Event) → Accepted m (settled t) → IsLeft m (settled t) ([] ∷ [])
    left_settled t (choices, is) = record {
      different = λ i j d before low. absurd (omega arith);
      all = λ grid (other, may, future). ([], Contains-head [] [], one_future [] grid (left_by m (settled t) other) (settled_future t (other, may)) future);
      only = λ grid inside. subst (Leaves m (settled t)) (only_one grid inside) (choices, is, settled_future t (choices, is));
    }
      where
        only_one : (grid : List (Pair U)) → Contains ([] ∷ []) grid → [] ≡ grid
        only_one grid inside = ⊎_elim (λ same. same) (λ none. absurd (Contains-nil grid none)) (Contains-cons_cases [] grid [] inside)

  -- no events leave the empty grid alone
  pub left_at_start : IsLeft m [] ([] ∷ [])
  left_at_start = record {
    different = λ i j d before low. absurd (omega arith);
    all = λ grid (other, may, future). ([], Contains-head [] [], one_future [] grid start empty_future future);
    only = λ grid inside. subst (Leaves m []) (only_one grid inside) (let (choices, is) = accepted_from_runs m [] (start, refl) in (choices, is, empty_future));
  }
    where
      only_one : (grid : List (Pair U)) → Contains ([] ∷ []) grid → [] ≡ grid
      only_one grid inside = ⊎_elim (λ same. same) (λ none. absurd (Contains-nil grid none)) (Contains-cons_cases [] grid [] inside)
