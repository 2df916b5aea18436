use Rattle.hz_grid.proofs.SetLemmas.{joined}
use Rattle.hz_grid.proofs.cycles.Cycles.join.Goals as goal

pub returns : goal.returns
returns c = joined c.args.self.words c.args.other.words c.join.new.words c.join.ensures.units
