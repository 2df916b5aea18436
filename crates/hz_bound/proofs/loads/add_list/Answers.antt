use Rattle.std.proofs.Common.{length, refl}
use Rattle.hz_bound.proofs.SumLemmas.{joined_is}
use Rattle.hz_bound.proofs.loads.add_list.Goals as goal

pub returns : goal.returns
returns c = joined_is c.args.list.now c.args.times (length c.args.list.now) (length c.args.totals.now) c.in_ok-tallies.tallies.items c.deref.result.now c.args.totals.now c.add_tallies.new.totals c.in_ok-tallies.ensures refl refl c.deref.ensures.value c.add_tallies.ensures.long c.add_tallies.ensures.each
