use Rattle.std.proofs.Common.{◌+◌, ◌*◌}
use Rattle.hz_block_model.proofs.Running.OperatorLaws.{word_of_number}
use Rattle.hz_block_model.proofs.operator_laws.sums_and_products.Goals as goal

pub returns-clause-plus : goal.returns-clause-plus
returns-clause-plus c = λ a b. word_of_number (a + b)

pub returns-clause-mult : goal.returns-clause-mult
returns-clause-mult c = λ a b. word_of_number (a * b)
