-- What choices leave is what runs leave.
use Rattle.std.proofs.Common.{List, subst}
use Rattle.hz_base_model.specs.Pairs.{Pair}
use Rattle.hz_pipeline_model.specs.Accepting.Replay.{Pipeline, State, Plays, start, left_by}
use Rattle.hz_pipeline_model.specs.Accepting.Events.{Event}
use Rattle.hz_pipeline_model.specs.Accepting.Fitting.{IsFuture}
use Rattle.hz_pipeline_model.proofs.Accepting.ReplayLaws.{run_of_choices, chosen_run}
use Rattle.hz_pipeline_model.specs.Reaching.Reach.{Leaves}

-- The grid is what stands reserved after a run.
abbrev pub PlaysTo : {U : Type 0} → Pipeline U → List Event → List (Pair U) → Type 0
PlaysTo {U} m t grid = (s : State U) × Plays m start t s × IsFuture grid s

pub plays_from_leaves : {U : Type 0} (m : Pipeline U) (t : List Event) (grid : List (Pair U)) → Leaves m t grid → PlaysTo m t grid
plays_from_leaves m t grid (choices, is, future) = (left_by m t choices, run_of_choices m t choices is, future)

pub leaves_from_plays : {U : Type 0} (m : Pipeline U) (t : List Event) (grid : List (Pair U)) → PlaysTo m t grid → Leaves m t grid
leaves_from_plays m t grid (s, run, future) =
    let found = chosen_run m t s run in
    (found.0, found.1, subst (IsFuture grid) found.2 future)
