use Rattle.std.proofs.Common.{[], arith}
use Rattle.hz_block_model.proofs.Texts.Numbers.{all_differ, all_few}
use Rattle.hz_block_model.proofs.text_laws.numbers_of_a_block_differ.Goals as goal

pub returns-clause-numbers : goal.returns-clause-numbers
returns-clause-numbers c = λ forms block. all_differ [] forms block (λ i j d lt within. absurd (omega arith))

pub returns-clause-count : goal.returns-clause-count
returns-clause-count c = λ forms block. all_few [] forms block (omega arith)
