use Rattle.hz_block_model.proofs.Texts.WrongTexts.{block_wrong, wrong_block}
use Rattle.hz_block_model.proofs.grammar_laws.wrong_blocks_have_a_wrong_form.Goals as goal

pub returns : goal.returns
returns c = λ forms fault line. (block_wrong forms fault line, wrong_block forms fault line)
