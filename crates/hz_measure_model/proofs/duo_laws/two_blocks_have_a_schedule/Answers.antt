use Rattle.hz_measure_model.proofs.TwoContexts.OneOfTwo.{some_of_two}
use Rattle.hz_measure_model.proofs.duo_laws.two_blocks_have_a_schedule.Goals as goal

pub returns : goal.returns
returns c = some_of_two
