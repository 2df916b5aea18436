use Rattle.hz_block_model.proofs.Running.OperatorLaws.{shifted_left, shifted_signed}
use Rattle.hz_block_model.proofs.operator_laws.shifts_are_by_powers_of_two.Goals as goal

pub returns-clause-left : goal.returns-clause-left
returns-clause-left c = shifted_left

pub returns-clause-signed : goal.returns-clause-signed
returns-clause-signed c = shifted_signed
