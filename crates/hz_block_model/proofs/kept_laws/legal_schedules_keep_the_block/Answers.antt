use Rattle.hz_block_model.proofs.Scheduled.BlockLaws.{legal_keeps}
use Rattle.hz_block_model.proofs.kept_laws.legal_schedules_keep_the_block.Goals as goal

pub returns : goal.returns
returns c = λ d known block g slots graph legal. legal_keeps d known block g slots graph legal
