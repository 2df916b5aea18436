use Rattle.hz_pipeline_model.proofs.Tables.MachineLaws.{parts_walk-append}
use Rattle.hz_pipeline_model.proofs.machines.machine_walks_continue.Goals as goal

pub returns : goal.returns
returns c = parts_walk-append
