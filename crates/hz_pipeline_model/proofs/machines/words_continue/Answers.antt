use Rattle.hz_pipeline_model.proofs.Tables.MachineLaws.{word_of-append}
use Rattle.hz_pipeline_model.proofs.machines.words_continue.Goals as goal

pub returns : goal.returns
returns c = word_of-append
