use Rattle.std.proofs.Common.{◌≡◌, true, ◌∙◌}
use Rattle.clap.specs.Words.{app_of, takes}
use Rattle.hz_tool_words.specs.Shape.{words_in}
use Rattle.hz_tool_words.proofs.OperandLemmas.{refusal_finds}
use Rattle.hz_tool_words.proofs.operands.found.Goals as goal

pub returns : goal.returns
returns c =
    refusal_finds (app_of c.args.command) (words_in c.args.words.now) c.kind.result c.refused.result
    (λ (taken : takes (app_of c.args.command) (words_in c.args.words.now) ≡ true). c.kind.ensures ∙ c.in-Err.ensures.passes taken) c.refused.ensures
