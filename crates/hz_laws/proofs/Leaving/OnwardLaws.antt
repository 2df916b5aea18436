-- One event more: what events leave leads to what they leave with it.
use Rattle.std.proofs.Common.{◌≡◌, ℕ, ◌≤◌, suc, Bool, List, [], ◌∷◌, ◌++◌, map, length, Contains, refl, sym, ap, subst, arith}
use Rattle.std.specs.List.{range_with_len}
use Rattle.std.proofs.lemmas.Option.{slice_get_past}
use Rattle.hz_base_model.specs.Pairs.{Pair, SamePairs}
use Rattle.hz_base_model.proofs.Elements.{Contains-map, Contains-from_map, Contains-range}
use Rattle.hz_pipeline_model.specs.Accepting.Events.{Event}
use Rattle.hz_pipeline_model.specs.Accepting.Fitting.{IsFuture}
use Rattle.hz_pipeline_model.specs.Accepting.Plays.{Tells, plays}
use Rattle.hz_pipeline_model.specs.Accepting.Replay.{Pipeline, State, Step, start, alternatives_at, of_class}
use Rattle.hz_pipeline_model.proofs.Accepting.FittingLaws.{unbroken_run}
use Rattle.hz_pipeline_model.proofs.Accepting.PlayLaws.{plays_run, run_plays}
use Rattle.hz_pipeline_model.proofs.Accepting.ReplayLaws.{run_split, run_more}
use Rattle.hz_pipeline_model.specs.Reaching.Columns.{event_at}
use Rattle.hz_pipeline_model.specs.Reaching.Graphs.{standing, Leads}
use Rattle.hz_pipeline_model.specs.Reaching.Reach.{Leaves, IsReachedGrid}
use Rattle.hz_pipeline_model.proofs.Reaching.LeavingLaws.{plays_from_leaves, leaves_from_plays}
use Rattle.hz_pipeline_model.proofs.Reaching.StepLaws.{planned, planned_future, one_future, future_with, step_from_leads, leads_from_step}

module _ {U : Type 0} (m : Pipeline U) where
  -- a class for each number below how many there are
  pub no_class : (k : ℕ) → length m.classes ≤ k → alternatives_at m k ≡ []
  no_class k past = ap of_class (slice_get_past m.classes k past)

  -- the events of one step: the issues of all classes, and the advance by one cycle
  pub steps : List Event
  steps = map (event_at (length m.classes)) (range_with_len 0 (suc (length m.classes)))

  pub is_step : (column : ℕ) → column ≤ length m.classes → Contains steps (event_at (length m.classes) column)
  unfolding steps
  is_step column low = Contains-map (event_at (length m.classes)) (range_with_len 0 (suc (length m.classes))) column (Contains-range (suc (length m.classes)) column (omega (arith, low)))

  pub leaves_alike : (t : List Event) (x y : List (Pair U)) → SamePairs y x → Leaves m t x → Leaves m t y
  leaves_alike t x y same (choices, is, future) = (choices, is, future_with y x _ same future)

  pub more_leaves : (t : List Event) (e : Event) (grid next : List (Pair U)) → Leaves m t grid → Leads m grid e next → Leaves m (t ++ e ∷ []) next
  more_leaves t e grid next leaves leads =
      let run = plays_from_leaves m t grid leaves in
      let step = step_from_leads m grid run.0 run.2 (unbroken_run m t run.0 run.1) e next leads in
      leaves_from_plays m (t ++ e ∷ []) next (step.0, run_more m start run.0 step.0 t e run.1 step.1, step.2)

  -- where an event leads from a grid, and from the same pairs
  leads_after : (grid : List (Pair U)) (e : Event) (next other : List (Pair U)) (q : State U) → IsFuture next q → IsFuture other q → Leads m grid e next → Leads m grid e other
  leads_after grid e next other q one also (s, step, future) = (s, step, future_with other next s (one_future other next q also one) future)

  pub fewer_leaves : (t : List Event) (e : Event) (next : List (Pair U)) → Leaves m (t ++ e ∷ []) next → (grid : List (Pair U)) × Leaves m t grid × Leads m grid e next
  fewer_leaves t e next leaves =
      let run = plays_from_leaves m (t ++ e ∷ []) next leaves in
      let parts = run_split m start run.0 t (e ∷ []) run.1 in
      let s = parts.0 in
      let grid = planned s in
      let last = parts.2 in
      let step : Step m s e run.0 = subst (Step m s e) (sym last.2) last.1 in
      let led = leads_from_step m grid s (planned_future s) (unbroken_run m t s parts.1) e run.0 step in
      (grid, leaves_from_plays m t grid (s, parts.1, planned_future s), leads_after grid e led.0 next run.0 led.2 run.2 led.1)

  pub leads_alike : (grid other : List (Pair U)) → IsReachedGrid m grid → SamePairs other grid → (e : Event) (next : List (Pair U)) → Leads m grid e next → Leads m other e next
  leads_alike grid other (t, leaves) same e next leads =
      let run = plays_from_leaves m t grid leaves in
      let unbroken = unbroken_run m t run.0 run.1 in
      let step = step_from_leads m grid run.0 run.2 unbroken e next leads in
      let led = leads_from_step m other run.0 (future_with other grid run.0 same run.2) unbroken e step.0 step.1 in
      leads_after other e led.0 next step.0 led.2 step.2 led.1

  module _ (same : U → U → Bool) (tells : Tells same) where
    -- the grids to which an event leads
    pub next_grids : Event → List (Pair U) → List (List (Pair U))
    next_grids e grid = map planned (plays same m (standing grid) (e ∷ []))

    pub leads_of_next : (e : Event) (grid next : List (Pair U)) → Contains (next_grids e grid) next → Leads m grid e next
    unfolding next_grids
    leads_of_next e grid next is =
        let found = Contains-from_map planned (plays same m (standing grid) (e ∷ [])) next is in
        let run = plays_run same tells m (e ∷ []) (standing grid) found.0 found.1 in
        (found.0, subst (Step m (standing grid) e) (sym run.2) run.1, subst (λ (g : List (Pair U)). IsFuture g found.0) found.2 (planned_future found.0))

    pub next_of_leads : (e : Event) (grid next : List (Pair U)) → Leads m grid e next → (x : List (Pair U)) × Contains (next_grids e grid) x × SamePairs next x
    unfolding next_grids
    next_of_leads e grid next (s, step, future) = (
      planned s,
      Contains-map planned (plays same m (standing grid) (e ∷ [])) s (run_plays same tells m (e ∷ []) (standing grid) s (s, step, refl)),
      one_future next (planned s) s future (planned_future s),
    )
