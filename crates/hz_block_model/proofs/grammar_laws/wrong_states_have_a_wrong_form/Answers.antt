use Rattle.hz_block_model.proofs.Texts.WrongTexts.{state_wrong, wrong_state}
use Rattle.hz_block_model.proofs.grammar_laws.wrong_states_have_a_wrong_form.Goals as goal

pub returns : goal.returns
returns c = λ forms fault line. (state_wrong forms fault line, wrong_state forms fault line)
