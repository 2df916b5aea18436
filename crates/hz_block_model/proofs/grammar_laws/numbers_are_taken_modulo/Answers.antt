use Rattle.std.proofs.Common.{◌+◌, ◌/◌, ◌^◌, arith}
use Rattle.hz_block_model.proofs.Running.OperatorLaws.{word_of_number}
use Rattle.hz_block_model.proofs.grammar_laws.numbers_are_taken_modulo.Goals as goal

pub returns-clause-from_zero : goal.returns-clause-from_zero
returns-clause-from_zero c = word_of_number

pub returns-clause-below_zero : goal.returns-clause-below_zero
returns-clause-below_zero c = λ n. (n / 2 ^ 64 + 1, omega arith)
