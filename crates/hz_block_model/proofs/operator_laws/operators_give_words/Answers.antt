use Rattle.hz_block_model.proofs.Running.OperatorLaws.{gives_word}
use Rattle.hz_block_model.proofs.operator_laws.operators_give_words.Goals as goal

pub returns-clause-binary : goal.returns-clause-binary
returns-clause-binary c = gives_word
