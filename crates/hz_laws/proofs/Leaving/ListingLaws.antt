-- What events leave can be listed: the futures of the states that runs lead to, each once.
use Rattle.std.proofs.Common.{inl, inr, Bool, true, false, List, map, Contains, refl, subst}
use Rattle.std.specs.Bool.{Decides}
use Rattle.std.proofs.lemmas.Bool.{both_ways}
use Rattle.hz_base_model.specs.Pairs.{Pair, SamePairs}
use Rattle.hz_base_model.proofs.Elements.{Contains-map, Contains-from_map}
use Rattle.hz_pipeline_model.specs.Accepting.Events.{Event}
use Rattle.hz_pipeline_model.specs.Accepting.Fitting.{IsFuture}
use Rattle.hz_pipeline_model.specs.Accepting.Plays.{Tells, has, plays}
use Rattle.hz_pipeline_model.specs.Accepting.Replay.{Pipeline, start}
use Rattle.hz_pipeline_model.proofs.Accepting.PlayLaws.{has_decides, plays_run, run_plays}
use Rattle.hz_pipeline_model.specs.Reaching.Reach.{IsLeft, Leaves}
use Rattle.hz_pipeline_model.proofs.Reaching.CountLaws.{same_pairs_back, same_pairs_then, same_pairs_itself}
use Rattle.hz_pipeline_model.proofs.Reaching.LeavingLaws.{plays_from_leaves, leaves_from_plays}
use Rattle.hz_pipeline_model.proofs.Reaching.StepLaws.{planned, planned_future, one_future}
use Rattle.hz_pipeline_model.proofs.Decidable.DecidedLaws.{IsDecided, each_reported}
use Rattle.hz_laws.proofs.Leaving.OnceLaws.{HasEachOnce, each_once}

-- what a test decides is reported
pub reported_by : {P : Type 0} (b : Bool) → Decides b P → IsDecided P
reported_by true decides = inl (decides.0 refl)
reported_by false decides = inr (λ p. both_ways false refl (decides.1 p))

module _ {U : Type 0} (same : U → U → Bool) (tells : Tells same) where
  -- whether all pairs of a list are in another
  within_reported : (xs ys : List (Pair U)) → IsDecided ((p : Pair U) → Contains xs p → Contains ys p)
  within_reported xs ys = each_reported (Contains ys) (λ p. reported_by (has same ys p) (has_decides same tells ys p)) xs

  pub pairs_reported : (xs ys : List (Pair U)) → IsDecided (SamePairs xs ys)
  pairs_reported xs ys = go (within_reported xs ys) (within_reported ys xs)
    where
      go : IsDecided ((p : Pair U) → Contains xs p → Contains ys p) → IsDecided ((p : Pair U) → Contains ys p → Contains xs p) → IsDecided (SamePairs xs ys)
      go (inl there) (inl back) = inl (λ p. (there p, back p))
      go (inl there) (inr none) = inr (λ alike. none (λ p. (alike p).1))
      go (inr none) back = inr (λ alike. none (λ p. (alike p).0))

  module _ (m : Pipeline U) (t : List Event) where
    -- the futures of all states that the events lead to
    abbrev futures : List (List (Pair U))
    futures = map planned (plays same m start t)

    future_of_left : (grid : List (Pair U)) → Leaves m t grid → (x : List (Pair U)) × Contains futures x × SamePairs x grid
    future_of_left grid leaves =
        let run = plays_from_leaves m t grid leaves in
        (planned run.0, Contains-map planned (plays same m start t) run.0 (run_plays same tells m t start run.0 run.1), one_future (planned run.0) grid run.0 (planned_future run.0) run.2)

    left_of_future : (grid : List (Pair U)) → Contains futures grid → Leaves m t grid
    left_of_future grid h =
        let found = Contains-from_map planned (plays same m start t) grid h in
        leaves_from_plays m t grid (found.0, plays_run same tells m t start found.0 found.1, subst (λ (g : List (Pair U)). IsFuture g found.0) found.2 (planned_future found.0))

    left_of_once : (grids : List (List (Pair U))) → HasEachOnce SamePairs futures grids → IsLeft m t grids
    left_of_once grids once = record {
      different = once.different;
      all = λ grid leaves.
          let future = future_of_left grid leaves in
          let there = once.all future.0 future.1 in
          (there.0, there.1, same_pairs_then there.0 future.0 grid there.2 future.2);
      only = λ grid h. left_of_future grid (once.only grid h);
    }

    pub left_listed : (grids : List (List (Pair U))) × IsLeft m t grids
    left_listed =
        let once = each_once SamePairs pairs_reported same_pairs_itself same_pairs_back futures in
        (once.0, left_of_once once.0 once.1)
