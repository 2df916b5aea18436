use Rattle.hz_pipeline_model.proofs.Reaching.LeavingLaws.{plays_from_leaves, leaves_from_plays}
use Rattle.hz_pipeline_model.proofs.leaving.left_where_a_run_leads.Goals as goal

pub returns : goal.returns
returns g c m t grid = (plays_from_leaves m t grid, leaves_from_plays m t grid)
