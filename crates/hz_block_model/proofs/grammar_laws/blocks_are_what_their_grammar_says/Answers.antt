use Rattle.hz_block_model.proofs.Texts.SaidBlocks.{block_said, block_comes}
use Rattle.hz_block_model.proofs.grammar_laws.blocks_are_what_their_grammar_says.Goals as goal

pub returns : goal.returns
returns c = λ forms block. (block_said forms block, block_comes forms block)
