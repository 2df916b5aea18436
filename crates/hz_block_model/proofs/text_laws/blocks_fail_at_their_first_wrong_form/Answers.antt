use Rattle.hz_block_model.proofs.Texts.FirstWrongs.{block_first_wrong, block_fault}
use Rattle.hz_block_model.proofs.text_laws.blocks_fail_at_their_first_wrong_form.Goals as goal

pub returns : goal.returns
returns c = λ forms fault line. (block_first_wrong forms fault line, block_fault forms fault line)
