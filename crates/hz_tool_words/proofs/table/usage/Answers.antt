use Rattle.std.proofs.Common.{refl}
use Rattle.hz_words_model.specs.Words.{usage_line}
use Rattle.hz_tool_words.proofs.table.usage.Goals as goal

pub returns : goal.returns
unfolding usage_line
returns c = refl
