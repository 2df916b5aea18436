use Rattle.hz_pipeline_model.proofs.Accepting.AcceptanceLaws.{prefix_accepted}
use Rattle.hz_pipeline_model.proofs.acceptance.prefixes_are_accepted.Goals as goal

pub returns : goal.returns
returns g c = prefix_accepted
