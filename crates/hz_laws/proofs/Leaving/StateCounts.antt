-- The counts of reached states are reported: as many as accepted lists of steps that leave different ones.
use Rattle.std.proofs.Common.{◌≡◌, ℕ, ◌≤◌, ◌⊎◌, inl, inr, ⊎_elim, Bool, List, [], ◌∷◌, ◌++◌, length, filter, Contains, refl, sym, ◌∙◌, subst, append_assoc, arith}
use Rattle.std.proofs.lemmas.List.{append-nil}
use Rattle.std.proofs.lemmas.List.Elements.{All-head, All-tail}
use Rattle.hz_base_model.specs.Pairs.{Pair, SamePairs}
use Rattle.hz_base_model.proofs.Elements.{Contains-nil, Contains-head, Contains-cons_cases, Contains-filter, Contains-from_filter}
use Rattle.hz_pipeline_model.specs.Accepting.Events.{Event}
use Rattle.hz_pipeline_model.specs.Accepting.Plays.{Tells, accepts}
use Rattle.hz_pipeline_model.specs.Accepting.Replay.{Pipeline, Accepted, start}
use Rattle.hz_pipeline_model.proofs.Accepting.PlayLaws.{accepts_decides}
use Rattle.hz_pipeline_model.proofs.Accepting.ReplayLaws.{runs_from_accepted, accepted_from_runs, run_split}
use Rattle.hz_pipeline_model.specs.Reaching.Columns.{AreColumns, event_at, events_at}
use Rattle.hz_pipeline_model.proofs.Reaching.Spelling.{spelled}
use Rattle.hz_pipeline_model.specs.Reaching.Counts.{IsAbove, IsAtMost}
use Rattle.hz_pipeline_model.specs.Reaching.Reach.{Leaves, IsLeft, IsReachedState, HasGrids, SameGrids}
use Rattle.hz_pipeline_model.proofs.Reaching.AutomatonLaws.{leaves_of_accepted, accepted_of_leaves}
use Rattle.hz_pipeline_model.proofs.Reaching.CountLaws.{same_pairs_back, same_pairs_itself, has_then, above_named}
use Rattle.hz_pipeline_model.proofs.Reaching.WordLaws.{spelled_columns, leaves_spelled, leaves_from_spelled, inside_of_leaves}
use Rattle.hz_pipeline_model.proofs.Decidable.DecidedLaws.{IsDecided, each_reported}
use Rattle.hz_laws.proofs.Leaving.ListingLaws.{pairs_reported, left_listed}
use Rattle.hz_laws.proofs.Leaving.ExploreLaws.{IsLed, first, onward, some_is_reported, count_reported, at_most_named}
use Rattle.hz_laws.proofs.Leaving.OnwardLaws.{no_class, steps, is_step, leaves_alike, more_leaves, fewer_leaves}

module _ {U : Type 0} where
  pub grids_itself : (xs : List (List (Pair U))) → SameGrids xs xs
  grids_itself xs = record { there = λ x is. (x, is, same_pairs_itself x); back = λ x is. (x, is, same_pairs_itself x) }

  pub grids_joined : (xs ys zs : List (List (Pair U))) → SameGrids xs ys → SameGrids ys zs → SameGrids xs zs
  grids_joined xs ys zs one other = record { there = has_then xs ys zs one.there other.there; back = has_then zs ys xs other.back one.back }

  -- lists of what events leave that leave alike
  pub same_left : (m : Pipeline U) (t v : List Event) (xs ys : List (List (Pair U))) → IsLeft m t xs → IsLeft m v ys → ((grid : List (Pair U)) → Leaves m t grid → Leaves m v grid) → ((grid : List (Pair U)) → Leaves m v grid → Leaves m t grid) → SameGrids xs ys
  same_left m t v xs ys left also forth back = record {
    there = λ x is. let found = also.all x (forth x (left.only x is)) in (found.0, found.1, same_pairs_back found.0 x found.2);
    back = λ y is. let found = left.all y (back y (also.only y is)) in (found.0, found.1, same_pairs_back found.0 y found.2);
  }

  -- and they do where one has the grids of the other
  pub left_there : (m : Pipeline U) (t v : List Event) (xs ys : List (List (Pair U))) → IsLeft m t xs → IsLeft m v ys → HasGrids xs ys → (grid : List (Pair U)) → Leaves m t grid → Leaves m v grid
  left_there m t v xs ys left also has grid leaves =
      let found = left.all grid leaves in
      let there = has found.0 found.1 in
      leaves_alike m v there.0 grid (λ p. (λ h. (there.2 p).0 ((found.2 p).1 h), λ h. (found.2 p).0 ((there.2 p).1 h))) (also.only there.0 there.1)

module _ {U : Type 0} (same : U → U → Bool) (tells : Tells same) (m : Pipeline U) where
  has_grids_reported : (xs ys : List (List (Pair U))) → IsDecided (HasGrids xs ys)
  has_grids_reported xs ys = each_reported (λ (x : List (Pair U)). (y : List (Pair U)) × Contains ys y × SamePairs x y) (λ x. some_is_reported (SamePairs x) (pairs_reported same tells x) ys) xs

  pub same_grids_reported : (xs ys : List (List (Pair U))) → IsDecided (SameGrids xs ys)
  same_grids_reported xs ys = go (has_grids_reported xs ys) (has_grids_reported ys xs)
    where
      go : IsDecided (HasGrids xs ys) → IsDecided (HasGrids ys xs) → IsDecided (SameGrids xs ys)
      go (inl there) (inl back) = inl (record { there = there; back = back })
      go (inl there) (inr none) = inr (λ alike. none alike.back)
      go (inr none) back = inr (λ alike. none alike.there)

  -- the state that events leave
  pub left_of : List Event → List (List (Pair U))
  left_of t = (left_listed same tells m t).0

  pub is_left : (t : List Event) → IsLeft m t (left_of t)
  unfolding left_of
  is_left t = (left_listed same tells m t).1

  pub forth : (t v : List Event) → SameGrids (left_of t) (left_of v) → (grid : List (Pair U)) → Leaves m t grid → Leaves m v grid
  forth t v alike = left_there m t v (left_of t) (left_of v) (is_left t) (is_left v) alike.there

  pub back : (t v : List Event) → SameGrids (left_of t) (left_of v) → (grid : List (Pair U)) → Leaves m v grid → Leaves m t grid
  back t v alike = left_there m v t (left_of v) (left_of t) (is_left v) (is_left t) alike.back

  -- what is accepted with one event more
  next_events : Event → List Event → List (List Event)
  next_events e t = filter (accepts same m) ((t ++ e ∷ []) ∷ [])

  next_is : (e : Event) (t v : List Event) → Contains (next_events e t) v → Accepted m v × (t ++ e ∷ [] ≡ v)
  unfolding next_events
  next_is e t v is =
      let kept = Contains-from_filter (accepts same m) v ((t ++ e ∷ []) ∷ []) is in
      ((accepts_decides same tells m v).0 kept.1, ⊎_elim (λ (alike : t ++ e ∷ [] ≡ v). alike) (λ there. absurd (Contains-nil v there)) (Contains-cons_cases (t ++ e ∷ []) v [] kept.0))

  is_next : (e : Event) (t : List Event) → Accepted m (t ++ e ∷ []) → Contains (next_events e t) (t ++ e ∷ [])
  unfolding next_events
  is_next e t accepted = Contains-filter (accepts same m) (t ++ e ∷ []) ((accepts_decides same tells m (t ++ e ∷ [])).1 accepted) ((t ++ e ∷ []) ∷ []) (Contains-head (t ++ e ∷ []) [])

  -- the lists of steps that are led to from none
  abbrev IsLedTo : List Event → Type 0
  IsLedTo = IsLed (steps m) next_events []

  led_accepted : (t : List Event) → IsLedTo t → Accepted m t
  led_accepted t first = accepted_from_runs m [] (start, refl)
  led_accepted v (onward {x} {way} before there leads) = (next_is way x v leads).0

  -- what leaves the same leaves the same with one event more
  pub more_alike : (t v : List Event) (e : Event) → ((grid : List (Pair U)) → Leaves m t grid → Leaves m v grid) → (next : List (Pair U)) → Leaves m (t ++ e ∷ []) next → Leaves m (v ++ e ∷ []) next
  more_alike t v e alike next leaves =
      let found = fewer_leaves m t e next leaves in
      more_leaves m v e found.0 next (alike found.0 found.1) found.2

  events_alike : (x y : List Event) → IsLedTo x → IsLedTo y → SameGrids (left_of x) (left_of y) → (e : Event) → (x' : List Event) → Contains (next_events e x) x' → (y' : List Event) × Contains (next_events e y) y' × SameGrids (left_of x') (left_of y')
  events_alike x y led also alike e x' is =
      let next = next_is e x x' is in
      let accepted : Accepted m (x ++ e ∷ []) = subst (Accepted m) (sym next.1) next.0 in
      let some = leaves_of_accepted m (x ++ e ∷ []) accepted in
      let there = accepted_of_leaves m (y ++ e ∷ []) some.0 (more_alike x y e (forth x y alike) some.0 some.1) in (
        y ++ e ∷ [],
        is_next e y there,
        subst (λ (v : List Event). SameGrids (left_of v) (left_of (y ++ e ∷ []))) next.1
            (same_left m (x ++ e ∷ []) (y ++ e ∷ []) (left_of (x ++ e ∷ [])) (left_of (y ++ e ∷ [])) (is_left (x ++ e ∷ [])) (is_left (y ++ e ∷ []))
            (more_alike x y e (forth x y alike)) (more_alike y x e (back x y alike))),
      )

  -- accepted steps are led to
  pub accepted_front : (xs ys : List Event) → Accepted m (xs ++ ys) → Accepted m xs
  accepted_front xs ys accepted =
      let run = runs_from_accepted m (xs ++ ys) accepted in
      let parts = run_split m start run.0 xs ys run.1 in
      accepted_from_runs m xs (parts.0, parts.1)

  led_steps : (w : List ℕ) → AreColumns (length m.classes) w → (t : List Event) → IsLedTo t → Accepted m (t ++ events_at (length m.classes) w) → (v : List Event) × IsLedTo v × (v ≡ t ++ events_at (length m.classes) w)
  led_steps [] are t led accepted = (t, led, sym (append-nil t))
  led_steps (column ∷ w) are t led accepted =
      let e = event_at (length m.classes) column in
      let rest = events_at (length m.classes) w in
      let regrouped = append_assoc t (e ∷ []) rest in
      let all : Accepted m ((t ++ e ∷ []) ++ rest) = subst (Accepted m) (sym regrouped) accepted in
      let found = led_steps w (All-tail (λ (c : ℕ). c ≤ length m.classes) column w are) (t ++ e ∷ [])
      (onward led (is_step m column (All-head (λ (c : ℕ). c ≤ length m.classes) column w are)) (is_next e t (accepted_front (t ++ e ∷ []) rest all))) all in
      (found.0, found.1, found.2 ∙ regrouped)

  reached_led : (t : List Event) → IsLedTo t → IsReachedState m (left_of t)
  reached_led t led = (t, led_accepted t led, is_left t)

  led_reached : (gs : List (List (Pair U))) → IsReachedState m gs → (v : List Event) × IsLedTo v × SameGrids gs (left_of v)
  led_reached gs (t, accepted, left) =
      let columns = length m.classes in
      let some = leaves_of_accepted m t accepted in
      let inside = inside_of_leaves m columns (no_class m) t some.0 some.1 in
      let v = events_at columns (spelled columns t) in
      let spelled_some = accepted_of_leaves m v some.0 (leaves_spelled m columns (no_class m) t some.0 some.1) in
      let led = led_steps (spelled columns t) (spelled_columns columns t inside) [] first spelled_some in (
        v,
        subst IsLedTo led.2 led.1,
        same_left m t v gs (left_of v) left (is_left v)
            (leaves_spelled m columns (no_class m) t)
            (λ grid leaves. leaves_from_spelled m columns (no_class m) t grid inside leaves),
      )

  -- a reached state has some grid
  some_grid : (t : List Event) → IsLedTo t → 1 ≤ length (left_of t)
  some_grid t led =
      let some = leaves_of_accepted m t (led_accepted t led) in
      let found = (is_left t).all some.0 some.1 in
      let within = found.1.1 in
      omega arith

  pub states_reported : (weight : List (List (Pair U)) → ℕ) → ((gs : List (List (Pair U))) → 1 ≤ length gs → 1 ≤ weight gs) → (n : ℕ) → IsAtMost (IsReachedState m) SameGrids weight n ⊎ IsAbove (IsReachedState m) SameGrids weight n
  states_reported weight heavy n = ⊎_elim
      (λ (most : IsAtMost IsLedTo (λ t v. SameGrids (left_of t) (left_of v)) (λ t. weight (left_of t)) n). inl
      (at_most_named IsLedTo (λ t v. SameGrids (left_of t) (left_of v)) (λ t. weight (left_of t)) (IsReachedState m) SameGrids weight left_of n
      led_reached (λ gs t v one other. grids_joined gs (left_of t) (left_of v) one other) (λ t. refl) most))
      (λ (above : IsAbove IsLedTo (λ t v. SameGrids (left_of t) (left_of v)) (λ t. weight (left_of t)) n). inr
      (above_named IsLedTo (λ t v. SameGrids (left_of t) (left_of v)) (λ t. weight (left_of t)) (IsReachedState m) SameGrids weight left_of n
      reached_led (λ x y _ _ alike. alike) (λ x _. refl) above))
      (count_reported (λ t v. SameGrids (left_of t) (left_of v)) (λ t v. same_grids_reported (left_of t) (left_of v)) (λ t. grids_itself (left_of t)) (λ t v w. grids_joined (left_of t) (left_of v) (left_of w))
      (steps m) next_events [] events_alike (λ t. weight (left_of t)) (λ t led. heavy (left_of t) (some_grid t led)) n)
