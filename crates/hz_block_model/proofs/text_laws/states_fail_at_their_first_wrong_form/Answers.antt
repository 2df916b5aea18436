use Rattle.hz_block_model.proofs.Texts.FirstWrongs.{state_first_wrong, state_fault}
use Rattle.hz_block_model.proofs.text_laws.states_fail_at_their_first_wrong_form.Goals as goal

pub returns : goal.returns
returns c = λ forms fault line. (state_first_wrong forms fault line, state_fault forms fault line)
