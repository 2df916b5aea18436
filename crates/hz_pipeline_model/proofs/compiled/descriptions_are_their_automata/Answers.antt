use Rattle.hz_pipeline_model.proofs.Compiling.FactoredLaws.{accepted_in_automata}
use Rattle.hz_pipeline_model.proofs.compiled.descriptions_are_their_automata.Goals as goal

pub returns : goal.returns
returns c = accepted_in_automata
