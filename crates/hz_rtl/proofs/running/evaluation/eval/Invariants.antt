use Rattle.std.proofs.Common.{◌≡◌, drop}
use Rattle.hz_block_model.specs.Running.States.{run}
use Rattle.hz_rtl.specs.Shape.{instructions}
use Rattle.hz_rtl.specs.States.{words}
use Rattle.hz_rtl.proofs.running.evaluation.eval.Given as goal

-- the places that are left lead to the state that the whole order leads to
abbrev pub invariant-loop-number : goal.invariant-loop-number
invariant-loop-number l = run (instructions l.block) (drop l.number-index l.order) (words l.now) ≡ run (instructions l.block) l.order (words l.state)
