use Rattle.std.proofs.Common.{length, rules}
use Rattle.hz_bound.proofs.ClassLemmas.{totals_more}
use Rattle.hz_bound.proofs.loads.add_classes.Goals as goal

pub loop-number-preserved : goal.loop-number-preserved
loop-number-preserved c = totals_more c.args.classes.now c.args.automaton c.args.times.now c.loop-number.number (length c.args.totals.now) c.index-classes-number.result c.list_of.result.now c.loop-number.totals c.add_list.new.totals (search rules) (search rules) c.list_of.ensures c.loop-number.invariant c.in_ok-add_list.ensures
