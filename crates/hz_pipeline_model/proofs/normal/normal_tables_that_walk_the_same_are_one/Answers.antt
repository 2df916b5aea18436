use Rattle.hz_pipeline_model.proofs.Least.NormalLaws.{normal_one}
use Rattle.hz_pipeline_model.proofs.normal.normal_tables_that_walk_the_same_are_one.Goals as goal

pub returns : goal.returns
returns c = normal_one
