use Rattle.hz_altern.proofs.ReserveLemmas.{pair_reserved, nothing_reserved, no_pairs}
use Rattle.hz_altern.proofs.listing.reserving.Reserved.take_pairs.Goals as goal

pub loop-pair-preserved : goal.loop-pair-preserved
loop-pair-preserved c = pair_reserved c.args.pairs.now c.loop-pair.pair-index _ c.args.starts c.later.result c.args.self.now c.loop-pair.self c.take.new.self c.loop-pair-test.true c.later.ensures c.loop-pair.invariant c.in_ok-take.ensures

pub loop-pair-init : goal.loop-pair-init
loop-pair-init c = nothing_reserved _ c.args.self.now (no_pairs c.args.starts)
