use Rattle.std.proofs.Common.{◌<◌, length, map, get_or, sym, ap, ◌∙◌, arith}
use Rattle.hz_block_model.specs.Running.States.{all_stored, run}
use Rattle.hz_rtl.specs.States.{words}
use Rattle.hz_rtl.specs.Stores.{store}
use Rattle.hz_rtl.specs.Shape.{instruction, instructions}
use Rattle.hz_rtl.proofs.StateLemmas.{instruction_at, run_more, run_end}
use Rattle.hz_rtl.proofs.running.evaluation.eval.Goals as goal

pub loop-number-init : goal.loop-number-init
loop-number-init c = ap (run (instructions c.args.block.now) c.args.order.now) c.in_ok-now.ensures

pub loop-number-preserved : goal.loop-number-preserved
loop-number-preserved c =
    let order = c.args.order.now in
    let i = c.loop-number.number-index in
    let insns = c.args.block.now.insns.items in
    let inside : get_or order i 0 < length insns = c.requires i 0 (omega arith) in
    let same = c.in_ok-now-2.ensures ∙ ap (all_stored (words c.loop-number.now)) (ap (map store) c.deref.ensures.value ∙ c.in_ok-stores.ensures) in
    run_more (instructions c.args.block.now) order i (instruction c.index.result.now) (words c.loop-number.now) (words c.in_ok-now-2.now) (omega arith) (instruction_at insns (get_or order i 0) c.index.result.now inside c.index.ensures) same
    ∙ c.loop-number.invariant

pub returns : goal.returns
returns c = sym (run_end (instructions c.args.block.now) c.args.order.now c.loop-number.number-index (words c.loop-number.now) (omega arith)) ∙ c.loop-number.invariant
