use Rattle.hz_pipeline_model.proofs.Accepting.FittingLaws.{future_fits}
use Rattle.hz_pipeline_model.proofs.fitting.fitting_needs_the_future_alone.Goals as goal

pub returns : goal.returns
returns g c = future_fits
