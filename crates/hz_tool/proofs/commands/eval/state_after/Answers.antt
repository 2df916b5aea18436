use Rattle.std.proofs.Common.{◌≡◌, ℕ, List, length, sym, ap, ◌∙◌, subst}
use Rattle.std.proofs.lemmas.List.{length-map}
use Rattle.std.specs.List.{range_with_len}
use Rattle.std.specs.Prelude.{IfOk}
use Rattle.hz_rtl.specs.Shape.{instruction, instructions}
use Rattle.hz_rtl.specs.States.{words}
use Rattle.hz_block_model.specs.Running.States.{run}
use Rattle.hz_tool.proofs.commands.eval.state_after.Goals as goal

pub returns : goal.returns
returns c =
    let block = c.args.block.now in
    let whole : c.deref.result.now ≡ range_with_len 0 (length (instructions block)) =
    c.deref.ensures.value ∙ (c.in_ok-order.ensures.order ∙ ap (range_with_len 0) (sym (length-map block.insns.items instruction))) in
    subst (λ (order : List ℕ). IfOk c.eval.result (λ after. words after ≡ run (instructions block) order (words c.args.state.now))) whole c.eval.ensures
