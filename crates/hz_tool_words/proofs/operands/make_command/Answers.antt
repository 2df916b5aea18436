use Rattle.std.proofs.Common.{◌∙◌, ap, sym, add-one}
use Rattle.clap.specs.Words.{with_rule}
use Rattle.hz_tool_words.specs.Operands.{app_with, id_at, operand}
use Rattle.hz_tool_words.proofs.operands.make_command.Goals as goal

pub loop-place-preserved : goal.loop-place-preserved
loop-place-preserved c =
    c.in_ok-command.ensures ∙ ap (λ app. with_rule app (operand (id_at c.loop-place.place))) c.loop-place.invariant ∙ ap (app_with c.args.name.now) (sym (add-one c.loop-place.place))
