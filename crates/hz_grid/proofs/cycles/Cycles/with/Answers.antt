use Rattle.hz_grid.proofs.SetLemmas.{with_cycle}
use Rattle.hz_grid.proofs.cycles.Cycles.with.Goals as goal

pub returns : goal.returns
returns c = with_cycle c.args.self.words c.add.new.words c.args.cycle c.requires c.add.ensures.units
