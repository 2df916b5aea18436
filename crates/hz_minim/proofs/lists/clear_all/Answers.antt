use Rattle.std.proofs.Common.{arith}
use Rattle.hz_minim.proofs.ListLaws.{cleared_more}
use Rattle.hz_minim.proofs.lists.clear_all.Goals as goal

pub loop-list-preserved : goal.loop-list-preserved
loop-list-preserved g c = cleared_more c.loop-list.list-items c.loop-list.list-index c.clear.new.self (omega arith) c.clear.ensures.items c.loop-list.invariant
