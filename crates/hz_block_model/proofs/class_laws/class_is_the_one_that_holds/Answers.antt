use Rattle.hz_block_model.proofs.Dependences.ClassLaws.{class_is}
use Rattle.hz_block_model.proofs.class_laws.class_is_the_one_that_holds.Goals as goal

pub returns : goal.returns
returns c = class_is
