use Rattle.hz_grid.proofs.SetLemmas.{HasCycle-below}
use Rattle.hz_grid.proofs.laws.what_is_taken_is_below_the_limits.Goals as goal

pub returns : goal.returns
returns c table automaton unit cycle is = (is.automaton_below, is.unit_below, HasCycle-below _ cycle is.taken)
