use Rattle.hz_pipeline_model.proofs.Pipelines.OneAutomaton.{machine_of_one}
use Rattle.hz_pipeline_model.proofs.pipeline_laws.fewer_than_two_automata_are_one.Goals as goal

pub returns : goal.returns
returns c = machine_of_one
