use Rattle.std.proofs.Common.{arith}
use Rattle.hz_check_reservations.proofs.Lists.{list_grows}
use Rattle.hz_check_reservations.proofs.ordering.circle.add_start.Goals as goal

pub returns : goal.returns
returns c = list_grows c.args.starts.now.items c.args.end c.index_mut.result.now c.push.new.self c.args.start (omega (arith, c.requires)) c.index_mut.ensures.value c.in_ok-push.ensures.items
