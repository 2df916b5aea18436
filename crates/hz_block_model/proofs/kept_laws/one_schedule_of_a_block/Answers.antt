use Rattle.hz_block_model.proofs.Scheduled.BlockLaws.{one_of_a_block}
use Rattle.hz_block_model.proofs.kept_laws.one_schedule_of_a_block.Goals as goal

pub returns : goal.returns
returns c = one_of_a_block
