use Rattle.std.proofs.Common.{◌++◌, List, map, append-nil, sym, ap, ◌∙◌}
use Rattle.std.specs.List.{repeat}
use Rattle.hz_block_model.specs.Running.Blocks.{Instruction}
use Rattle.hz_rtl.specs.Shape.{instruction, instructions}
use Rattle.hz_measure_model.proofs.Kernels.UnrollLaws.{repeat-add}
use Rattle.hz_modulo.proofs.copies.three_times.Goals as goal

pub loop-turn-preserved : goal.loop-turn-preserved
loop-turn-preserved c =
    let body = instructions c.args.block.now in
    c.in_ok-add_copies.ensures.copied
    ∙ ((λ i. c.loop-turn.invariant i ++ map instruction (c.deref.ensures.value i))
    ∙ (ap (λ (xs : List Instruction). repeat c.loop-turn._turn body ++ xs) (sym (append-nil body))
    ∙ sym (repeat-add c.loop-turn._turn 1 body)))
