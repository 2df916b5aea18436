use Rattle.hz_pipeline_model.proofs.Accepting.ChoiceLaws.{by_first_choice}
use Rattle.hz_pipeline_model.proofs.acceptance.accepted_by_the_first_choice.Goals as goal

pub returns : goal.returns
returns g c = by_first_choice
