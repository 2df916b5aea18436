-- The count of reached grids is reported.
use Rattle.std.proofs.Common.{ℕ, ◌≤◌, ◌⊎◌, inl, inr, ⊎_elim, Bool, List, [], ◌∷◌, ◌++◌, length, Contains, refl, sym, subst, arith}
use Rattle.std.proofs.lemmas.List.Elements.{All-head, All-tail}
use Rattle.hz_base_model.specs.Pairs.{Pair, SamePairs}
use Rattle.hz_pipeline_model.specs.Accepting.Events.{Event}
use Rattle.hz_pipeline_model.specs.Accepting.Fitting.{IsFuture, IsUnbroken}
use Rattle.hz_pipeline_model.specs.Accepting.Plays.{Tells}
use Rattle.hz_pipeline_model.specs.Accepting.Replay.{Pipeline, State, Plays, start}
use Rattle.hz_pipeline_model.proofs.Accepting.FittingLaws.{unbroken_empty}
use Rattle.hz_pipeline_model.specs.Reaching.Columns.{AreColumns, event_at, events_at}
use Rattle.hz_pipeline_model.proofs.Reaching.Spelling.{spelled}
use Rattle.hz_pipeline_model.specs.Reaching.Counts.{IsAbove, IsAtMost}
use Rattle.hz_pipeline_model.specs.Reaching.Reach.{IsReachedGrid}
use Rattle.hz_pipeline_model.proofs.Reaching.CountLaws.{same_pairs_back, same_pairs_then, same_pairs_itself}
use Rattle.hz_pipeline_model.proofs.Reaching.LeavingLaws.{plays_from_leaves, leaves_from_plays}
use Rattle.hz_pipeline_model.proofs.Reaching.PathLaws.{empty_future}
use Rattle.hz_pipeline_model.proofs.Reaching.StepLaws.{one_future, future_with, leads_from_step, unbroken_step}
use Rattle.hz_pipeline_model.proofs.Reaching.WordLaws.{spelled_columns, leaves_spelled, inside_of_leaves}
use Rattle.hz_laws.proofs.Leaving.ListingLaws.{pairs_reported}
use Rattle.hz_laws.proofs.Leaving.ExploreLaws.{IsLed, first, onward, count_reported}
use Rattle.hz_laws.proofs.Leaving.OnwardLaws.{no_class, steps, is_step, more_leaves, leads_alike, next_grids, leads_of_next, next_of_leads}

module _ {U : Type 0} (same : U → U → Bool) (tells : Tells same) (m : Pipeline U) where
  -- the grids that are led to from the empty one
  abbrev IsLedGrid : List (Pair U) → Type 0
  IsLedGrid = IsLed (steps m) (next_grids m same tells) []

  reached_led : (grid : List (Pair U)) → IsLedGrid grid → IsReachedGrid m grid
  reached_led grid first = ([], leaves_from_plays m [] [] (start, refl, empty_future))
  reached_led next (onward {x} {way} before there leads) =
      let (t, leaves) = reached_led x before in
      (t ++ way ∷ [], more_leaves m t way x next leaves (leads_of_next m same tells way x next leads))

  grids_alike : (x y : List (Pair U)) → IsLedGrid x → IsLedGrid y → SamePairs x y → (e : Event) → (x' : List (Pair U)) → Contains (next_grids m same tells e x) x' → (y' : List (Pair U)) × Contains (next_grids m same tells e y) y' × SamePairs x' y'
  grids_alike x y led _ alike e x' is =
      next_of_leads m same tells e y x' (leads_alike m x y (reached_led x led) (same_pairs_back x y alike) e x' (leads_of_next m same tells e x x' is))

  -- a run of steps leads on
  led_run : (w : List ℕ) → AreColumns (length m.classes) w → (grid : List (Pair U)) → IsLedGrid grid → (s q : State U) → IsFuture grid s → IsUnbroken m.statements s.reserved → Plays m s (events_at (length m.classes) w) q → (x : List (Pair U)) × IsLedGrid x × IsFuture x q
  led_run [] are grid led s q future unbroken run = (grid, led, subst (IsFuture grid) (sym run) future)
  led_run (column ∷ w) are grid led s q future unbroken (middle, step, run) =
      let e = event_at (length m.classes) column in
      let leads = leads_from_step m grid s future unbroken e middle step in
      let next = next_of_leads m same tells e grid leads.0 leads.1 in
      led_run w (All-tail (λ (c : ℕ). c ≤ length m.classes) column w are) next.0
      (onward led (is_step m column (All-head (λ (c : ℕ). c ≤ length m.classes) column w are)) next.1)
      middle q (future_with next.0 leads.0 middle (same_pairs_back leads.0 next.0 next.2) leads.2)
      (unbroken_step m grid s future unbroken e middle step) run

  led_reached : (grid : List (Pair U)) → IsReachedGrid m grid → (x : List (Pair U)) × IsLedGrid x × SamePairs grid x
  led_reached grid (t, leaves) =
      let columns = length m.classes in
      let are = spelled_columns columns t (inside_of_leaves m columns (no_class m) t grid leaves) in
      let run = plays_from_leaves m (events_at columns (spelled columns t)) grid (leaves_spelled m columns (no_class m) t grid leaves) in
      let found = led_run (spelled columns t) are [] first start run.0 empty_future (unbroken_empty m.statements) run.1 in
      (found.0, found.1, one_future grid found.0 run.0 run.2 found.2)

  pub grids_reported : (n : ℕ) → IsAtMost (IsReachedGrid m) SamePairs (λ _. 1) n ⊎ IsAbove (IsReachedGrid m) SamePairs (λ _. 1) n
  grids_reported n = ⊎_elim
      (λ (most : IsAtMost IsLedGrid SamePairs (λ _. 1) n). inl (record {
        items = most.items;
        all = λ grid is.
            let led = led_reached grid is in
            let found = most.all led.0 led.1 in
            (found.0, found.1, same_pairs_then grid led.0 found.0 led.2 found.2);
        most = most.most;
      }))
      (λ (above : IsAbove IsLedGrid SamePairs (λ _. 1) n). inr (record {
        items = above.items;
        reached = λ x is. reached_led x (above.reached x is);
        different = above.different;
        above = above.above;
      }))
      (count_reported SamePairs (pairs_reported same tells) same_pairs_itself same_pairs_then (steps m) (next_grids m same tells) [] grids_alike (λ _. 1) (λ x led. omega arith) n)
