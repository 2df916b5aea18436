use Rattle.hz_block_model.proofs.Scheduled.FaultLaws.{one_stuck, stuck_or_all}
use Rattle.hz_block_model.proofs.kept_laws.one_stuck_instruction.Goals as goal

pub returns-clause-one : goal.returns-clause-one
returns-clause-one c = one_stuck

pub returns-clause-none : goal.returns-clause-none
returns-clause-none c = stuck_or_all
