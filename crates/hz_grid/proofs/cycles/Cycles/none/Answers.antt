use Rattle.hz_grid.proofs.SetLemmas.{no_cycle}
use Rattle.hz_grid.proofs.cycles.Cycles.none.Goals as goal

pub returns : goal.returns
returns c = no_cycle 8
