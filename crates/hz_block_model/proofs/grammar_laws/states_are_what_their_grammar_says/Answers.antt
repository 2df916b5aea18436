use Rattle.hz_block_model.proofs.Texts.SaidBlocks.{state_said, state_comes}
use Rattle.hz_block_model.proofs.grammar_laws.states_are_what_their_grammar_says.Goals as goal

pub returns : goal.returns
returns c = λ forms state. (state_said forms state, state_comes forms state)
