use Rattle.hz_block_model.proofs.Dependences.DataLaws.{stores_says}
use Rattle.hz_block_model.proofs.class_laws.stores_are_of_set_effects.Goals as goal

pub returns : goal.returns
returns c = stores_says
