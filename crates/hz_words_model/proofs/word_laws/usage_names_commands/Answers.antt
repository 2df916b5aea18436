use Rattle.std.proofs.Common.{refl}
use Rattle.hz_words_model.specs.Words.{usage_line}
use Rattle.hz_words_model.proofs.word_laws.usage_names_commands.Goals as goal

pub returns : goal.returns
unfolding usage_line
returns c = refl
