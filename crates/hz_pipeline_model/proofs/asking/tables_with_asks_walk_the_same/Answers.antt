use Rattle.hz_pipeline_model.proofs.Asks.AlikeLaws.{walk_the_same}
use Rattle.hz_pipeline_model.proofs.asking.tables_with_asks_walk_the_same.Goals as goal

pub returns : goal.returns
returns c = walk_the_same
