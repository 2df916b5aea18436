use Rattle.std.proofs.Common.{◌≡◌, ◌-◌, length, refl, arith}
use Rattle.std.proofs.lemmas.Iterator.{YieldsList-from_range, items_from_collect}
use Rattle.hz_rtl.proofs.block.Block.source_order.Goals as goal

pub returns-clause-order : goal.returns-clause-order
returns-clause-order c =
    let long = c.args.self.now.insns.ok.0 in
    let many : c.len.result - 0 ≡ length c.args.self.now.insns.items = omega (arith, long) in
    items_from_collect _ c.collect.ensures.ran (YieldsList-from_range 0 _ (length c.args.self.now.insns.items) refl many)
