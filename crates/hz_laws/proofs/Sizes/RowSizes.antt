-- A compiled part has no more rows than its automaton has states: different rows stand for different states.
use Rattle.std.proofs.Common.{◌≡◌, ◌≢◌, ⊎_elim, ℕ, zero, suc, ◌+◌, ◌<◌, ◌≤◌, Bool, true, false, List, [], ◌∷◌, ◌++◌, length, Some, refl, sym, ap, ◌∙◌, arith}
use Rattle.std.specs.Prelude.{is_some, All, MatchBool, ◌↔◌}
use Rattle.std.proofs.lemmas.Bool.{cases_eq, cases_lt}
use Rattle.std.proofs.lemmas.List.Elements.{All-cons, All-nil, All-contains}
use Rattle.std.proofs.lemmas.List.Kept.{AllPairs-cons}
use Rattle.hz_base_model.specs.Pairs.{Pair, SamePairs}
use Rattle.hz_pipeline_model.specs.Accepting.Events.{Event, IsOfClass}
use Rattle.hz_pipeline_model.specs.Accepting.Replay.{Pipeline, start, Accepted, first_fit}
use Rattle.hz_pipeline_model.proofs.Accepting.ReplayLaws.{run_split, run_join, runs_from_accepted, accepted_from_runs}
use Rattle.hz_pipeline_model.proofs.Accepting.FittingLaws.{unbroken_run}
use Rattle.hz_pipeline_model.specs.Tables.Tables.{walk, IsReached}
use Rattle.hz_pipeline_model.specs.Tables.Apart.{AllApart}
use Rattle.hz_pipeline_model.specs.Tables.Machines.{Part, part_walk}
use Rattle.hz_pipeline_model.specs.Reaching.Reach.{AreDifferent, IsLeft, IsReachedGrid, IsReachedState, HasGrids, SameGrids}
use Rattle.hz_pipeline_model.specs.Reaching.Counts.{IsAtMost, states, CountIsAtMost}
use Rattle.hz_pipeline_model.proofs.Reaching.LeavingLaws.{plays_from_leaves, leaves_from_plays}
use Rattle.hz_pipeline_model.proofs.Reaching.StepLaws.{planned, planned_future, future_with}
use Rattle.hz_pipeline_model.proofs.Reaching.CountLaws.{same_pairs_back, same_pairs_then, sum_by_ones, no_count_both}
use Rattle.hz_pipeline_model.specs.Compiling.CompiledParts.{WalksAccepted, TellsWhatIsLeft}
use Rattle.hz_block_model.proofs.Settling.RunLaws.{run_there}
use Rattle.hz_pipeline_model.proofs.Single.WordLaws.{Spells, spell}
use Rattle.hz_pipeline_model.proofs.Single.LeftLaws.{left_not_none}
use Rattle.hz_pipeline_model.proofs.Asks.BareWords.{bare, bare_columns, bare_walk}
use Rattle.hz_block_model.proofs.Settling.AlikeStates.{IsReported, IsAlike, walked_alike}
use Rattle.hz_pipeline_model.specs.Accepting.Asking.{IsHeld}
use Rattle.hz_pipeline_model.proofs.Reaching.HeldLaws.{held_is_present}

-- what can be run after some events can be run after others that leave the same
module _ {U : Type 0} (m : Pipeline U) where
  accepted_also : (t u v : List Event) (xs ys : List (List (Pair U))) → IsLeft m t xs → IsLeft m u ys → HasGrids xs ys → Accepted m (t ++ v) → Accepted m (u ++ v)
  accepted_also t u v xs ys left left' has accepted =
      let (q, run) = runs_from_accepted m (t ++ v) accepted in
      let (r, before, beyond) = run_split m start q t v run in
      let grid = planned r in
      let (one, there, same) = left.all grid (leaves_from_plays m t grid (r, before, planned_future r)) in
      let (other, there', same') = has one there in
      let (s, run', future) = plays_from_leaves m u other (left'.only other there') in
      let own = future_with other grid r (same_pairs_then other one grid (same_pairs_back one other same') same) (planned_future r) in
      let (o, also, last, this, that) = run_there m v other r s q own future (unbroken_run m t r before) (unbroken_run m u s run') beyond in
      accepted_from_runs m (u ++ v) (o, run_join m start s o u v run' also)

  -- and then the same is held
  held_also : m.treatment ≡ first_fit → (t u v : List Event) (xs ys : List (List (Pair U))) → IsLeft m t xs → IsLeft m u ys → HasGrids xs ys → Accepted m (t ++ v) → (unit : U) → IsHeld m (t ++ v) unit ↔ IsHeld m (u ++ v) unit
  held_also first t u v xs ys left left' has accepted unit =
      let (q, run) = runs_from_accepted m (t ++ v) accepted in
      let (r, before, beyond) = run_split m start q t v run in
      let grid = planned r in
      let (one, there, same) = left.all grid (leaves_from_plays m t grid (r, before, planned_future r)) in
      let (other, there', same') = has one there in
      let (s, run', future) = plays_from_leaves m u other (left'.only other there') in
      let own = future_with other grid r (same_pairs_then other one grid (same_pairs_back one other same') same) (planned_future r) in
      let (o, also, last, this, that) = run_there m v other r s q own future (unbroken_run m t r before) (unbroken_run m u s run') beyond in
      let here = held_is_present m first (t ++ v) last (leaves_from_plays m (t ++ v) last (q, run, this)) unit in
      let later = held_is_present m first (u ++ v) last (leaves_from_plays m (u ++ v) last (o, run_join m start s o u v run' also, that)) unit in
      (λ h. later.1 (here.0 h), λ h. here.1 (later.0 h))

  -- events that leave the same are alike
  alike_where_left : (t u : List Event) (xs ys : List (List (Pair U))) → IsLeft m t xs → IsLeft m u ys → SameGrids xs ys → IsAlike m t u
  alike_where_left t u xs ys left left' same = record {
    accepted = λ v. (accepted_also t u v xs ys left left' same.there, accepted_also u t v ys xs left' left same.back);
    held = λ first v h unit. held_also first t u v xs ys left left' same.there h unit;
  }

module _ {U : Type 0} (classes : ℕ) (m : Pipeline U) (queries : List U) (part : Part) (reported : IsReported classes m queries part) where
  walks : WalksAccepted classes m part
  walks = reported.walks

  -- events that lead to a state, and what they leave
  record LeadsTo (state : ℕ) (xs : List (List (Pair U))) : Type 0 where
    events : List Event
    inside : All (IsOfClass classes) events
    ends : part_walk part 0 events ≡ Some state
    left : IsLeft m events xs

  accepted : (state : ℕ) (xs : List (List (Pair U))) (t : LeadsTo state xs) → Accepted m t.events
  accepted state xs t = (walks.walks t.events t.inside).0 (ap is_some t.ends)

  -- states with the same grids are one
  same_state : (stay : Bool) → MatchBool stay (TellsWhatIsLeft classes m part) (AllApart part.rows) → (i j : ℕ) → i < length part.rows → j < length part.rows → (xs ys : List (List (Pair U))) → LeadsTo i xs → LeadsTo j ys → SameGrids xs ys → i ≡ j
  same_state true tells i j low low' xs ys t u same =
      let meet = (tells.one t.events u.events xs ys t.inside u.inside t.left u.left (accepted i xs t) (accepted j ys u)).1 same in
      let all : Some i ≡ Some j = sym t.ends ∙ (meet ∙ u.ends) in
      cc
  same_state false apart i j low low' xs ys t u same = ⊎_elim
      (λ (e : i ≡ j). e)
      (λ (differ : i ≢ j).
      let tell = apart.apart i j low low' differ in
      absurd (tell.once (walked_alike classes m queries part reported t.events u.events t.inside u.inside (alike_where_left m t.events u.events xs ys t.left u.left same) tell.word i j t.ends u.ends)))
      (cases_eq i j)

  -- lists of grids to which events lead at the states from this one on
  abbrev LeadFrom : ℕ → List (List (List (Pair U))) → Type 0
  LeadFrom state [] = Unit {0}
  LeadFrom state (xs ∷ others) = LeadsTo state xs × LeadFrom (suc state) others

  -- there can't be none for so many states
  leads_not_none : {weight : List (Pair U) → ℕ} {n : ℕ} → IsAtMost (IsReachedGrid m) SamePairs weight n → ((state : ℕ) → state < length part.rows → IsReached part.rows state) → (count state : ℕ) → state + count ≤ length part.rows → ((items : List (List (List (Pair U)))) → length items ≡ count → LeadFrom state items → ⊥) → ⊥
  leads_not_none most reached zero state low none = none [] refl tt
  leads_not_none {weight} {n} most reached (suc count) state low none =
      let (w, e) = reached state (omega (arith, low)) in
      let columns = bare part.columns (length part.asks) w in
      let s : Spells classes part columns = spell classes part reported.filled columns (bare_columns part.columns (length part.asks) w) in
      let ends = ap (walk part.rows (Some 0)) s.word ∙ bare_walk part.rows part.columns (length part.asks) reported.shape.table reported.shape.stays w 0 state e in
      left_not_none m weight n most s.events (λ xs left.
      leads_not_none most reached count (suc state) (omega (arith, low)) (λ items long lead.
      none (xs ∷ items) (ap suc long) (record { events = s.events; inside = s.inside; ends = ends; left = left }, lead)))

  reached_all : (state : ℕ) (items : List (List (List (Pair U)))) → LeadFrom state items → All (IsReachedState m) items
  reached_all state [] lead = All-nil (IsReachedState m)
  reached_all state (xs ∷ items) lead = All-cons (IsReachedState m) xs items (lead.0.events, accepted state xs lead.0, lead.0.left) (reached_all (suc state) items lead.1)

  module _ (stay : Bool) (tells : MatchBool stay (TellsWhatIsLeft classes m part) (AllApart part.rows)) where
    apart_after : (i : ℕ) (xs : List (List (Pair U))) → i < length part.rows → LeadsTo i xs → (state : ℕ) → i < state → (items : List (List (List (Pair U)))) → state + length items ≤ length part.rows → LeadFrom state items → All (λ ys. SameGrids xs ys → ⊥) items
    apart_after i xs low t state before [] within lead = All-nil (λ ys. SameGrids xs ys → ⊥)
    apart_after i xs low t state before (ys ∷ items) within lead = All-cons (λ zs. SameGrids xs zs → ⊥) ys items
        (λ same. let one = same_state stay tells i state low (omega (arith, within)) xs ys t lead.0 same in omega (arith, one, before))
        (apart_after i xs low t (suc state) (omega (arith, before)) items (omega (arith, within)) lead.1)

    all_apart : (state : ℕ) (items : List (List (List (Pair U)))) → state + length items ≤ length part.rows → LeadFrom state items → AreDifferent SameGrids items
    all_apart state [] within lead = λ i j d less low. absurd (omega (arith, low))
    all_apart state (xs ∷ items) within lead = AllPairs-cons (λ x y. SameGrids x y → ⊥) xs items
        (apart_after state xs (omega (arith, within)) lead.0 (suc state) (omega arith) items (omega (arith, within)) lead.1)
        (all_apart (suc state) items (omega (arith, within)) lead.1)

    -- as many rows as states, at most
    pub rows_few : {weight : List (Pair U) → ℕ} {n : ℕ} → IsAtMost (IsReachedGrid m) SamePairs weight n → ((state : ℕ) → state < length part.rows → IsReached part.rows state) → (most : ℕ) → CountIsAtMost m part.columns states most → length part.rows ≤ most
    rows_few grids reached most few = ⊎_elim
        (λ (more : most < length part.rows). absurd (leads_not_none grids reached (length part.rows) 0 (omega arith) (λ items long lead.
        no_count_both m part.columns most states (record {
          items = items;
          reached = λ xs there. All-contains (IsReachedState m) items xs (reached_all 0 items lead) there;
          different = all_apart 0 items (omega (arith, long)) lead;
          above = omega (arith, long, more, sum_by_ones items);
        }) few)))
        (λ (less : length part.rows ≤ most). less)
        (cases_lt most (length part.rows))
