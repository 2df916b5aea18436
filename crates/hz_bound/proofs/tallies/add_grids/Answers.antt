use Rattle.std.proofs.Common.{◌+◌, length, rules, refl}
use Rattle.hz_bound.proofs.TallyLemmas.{tallies_more}
use Rattle.hz_bound.proofs.tallies.add_grids.Goals as goal

pub loop-index-preserved : goal.loop-index-preserved
loop-index-preserved c = tallies_more c.args.list.now c.loop-index.index (c.loop-index.index + 1) c.index-list-index.result (length c.args.tallies.now) c.loop-index.tallies c.add_grid.new.tallies (search rules) (search rules) refl c.loop-index.invariant c.add_grid.ensures
