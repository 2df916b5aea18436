use Rattle.hz_timed.proofs.OrderedLemmas.{ordered_is}
use Rattle.hz_timed.proofs.looking.order_registers.Goals as goal

pub returns : goal.returns
returns c = ordered_is c.args.registers.now.items c.sort_unstable.new.self.items c.dedup.new.self.items c.sort_unstable.ensures.permutation c.dedup.ensures.filtered c.sort_unstable.ensures.sorted
