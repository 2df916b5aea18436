use Rattle.hz_measure_model.proofs.TwoContexts.OneOfTwo.{one_of_two}
use Rattle.hz_measure_model.proofs.duo_laws.one_schedule_of_two_blocks.Goals as goal

pub returns : goal.returns
returns c = one_of_two
