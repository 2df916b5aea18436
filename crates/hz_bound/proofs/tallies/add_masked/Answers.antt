use Rattle.hz_bound.proofs.TallyLemmas.{step_masked}
use Rattle.hz_bound.proofs.tallies.add_masked.Goals as goal

pub returns-else-meets : goal.returns-else-meets
returns-else-meets c = step_masked c.args.grid.now c.args.number c.args.cycle c.args.first c.args.row c.args.mask c.args.tallies.now (λ u h. (c.requires.row u).1 h) c.requires.mask c.meets.result c.if-meets.false c.meets.ensures.1
