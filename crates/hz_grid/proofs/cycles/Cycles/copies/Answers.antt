use Rattle.std.proofs.Common.{arith}
use Rattle.hz_grid.proofs.SetLemmas.{copies_once, copies_more, as_far_cut}
use Rattle.hz_grid.proofs.cycles.Cycles.copies.Goals as goal

pub loop-made-init : goal.loop-made-init
loop-made-init c = record {
  some = omega arith;
  within = omega arith;
  copies = λ cycle. copies_once c.args.self c.args.apart cycle;
}

pub loop-made-preserved : goal.loop-made-preserved
loop-made-preserved c = let made = c.loop-made.invariant in let more = c.min-more.ensures in record {
  some = omega arith;
  within = omega arith;
  copies = copies_more c.args.self c.loop-made.copies c.later.result c.join-copies.result c.loop-made.made c.min-more.result c.args.apart c.saturating_mul.result (omega arith) (rw c.saturating_mul.ensures (as_far_cut _)) c.loop-made.invariant.copies c.later.ensures c.join-copies.ensures;
}
