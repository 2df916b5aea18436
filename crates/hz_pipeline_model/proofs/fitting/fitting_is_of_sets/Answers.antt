use Rattle.hz_pipeline_model.proofs.Accepting.FittingLaws.{fits_listed}
use Rattle.hz_pipeline_model.proofs.fitting.fitting_is_of_sets.Goals as goal

pub returns : goal.returns
returns g c = fits_listed
