use Rattle.hz_block_model.proofs.Dependences.UpwardLaws.{upwards}
use Rattle.hz_block_model.proofs.dependence_laws.dependences_lead_upwards.Goals as goal

pub returns : goal.returns
returns c = upwards
