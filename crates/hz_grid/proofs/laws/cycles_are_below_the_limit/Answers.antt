use Rattle.hz_grid.proofs.SetLemmas.{HasCycle-below}
use Rattle.hz_grid.proofs.laws.cycles_are_below_the_limit.Goals as goal

pub returns : goal.returns
returns c cycles cycle = HasCycle-below cycles cycle
