use Rattle.hz_pipeline_model.proofs.Accepting.ChoiceLaws.{one_choice}
use Rattle.hz_pipeline_model.proofs.acceptance.one_choice_in_the_first_treatment.Goals as goal

pub returns : goal.returns
returns g c = one_choice
