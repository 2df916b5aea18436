use Rattle.hz_pipeline_model.proofs.Accepting.ReplayLaws.{runs_from_accepted, accepted_from_runs}
use Rattle.hz_pipeline_model.proofs.acceptance.accepted_where_a_run_is.Goals as goal

pub returns : goal.returns
returns g c = λ m t. (runs_from_accepted m t, accepted_from_runs m t)
