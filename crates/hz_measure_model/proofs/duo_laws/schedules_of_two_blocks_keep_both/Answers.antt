use Rattle.hz_measure_model.proofs.TwoContexts.TwoLaws.{keeps_both}
use Rattle.hz_measure_model.proofs.duo_laws.schedules_of_two_blocks_keep_both.Goals as goal

pub returns : goal.returns
returns c = keeps_both
