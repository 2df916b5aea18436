use Rattle.hz_pipeline_model.proofs.Reaching.CountLaws.{no_count_both}
use Rattle.hz_pipeline_model.proofs.counting.no_count_is_both.Goals as goal

pub returns : goal.returns
returns g c = no_count_both
