use Rattle.hz_pipeline_model.proofs.Compiling.PipelineLaws.{restricted_moved}
use Rattle.hz_pipeline_model.proofs.compiled.checked_automata_are_their_pipelines.Goals as goal

pub returns : goal.returns
returns c = λ d known a low. restricted_moved d known a low
