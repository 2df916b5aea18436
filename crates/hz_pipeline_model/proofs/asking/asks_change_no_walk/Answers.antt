use Rattle.hz_pipeline_model.proofs.Asks.AskLaws.{same_walk}
use Rattle.hz_pipeline_model.proofs.asking.asks_change_no_walk.Goals as goal

pub returns : goal.returns
returns c = same_walk
