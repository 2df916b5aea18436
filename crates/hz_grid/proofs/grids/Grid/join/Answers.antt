use Rattle.hz_grid.proofs.grids.Grid.join.Goals as goal

pub returns-clause-pairs : goal.returns-clause-pairs
returns-clause-pairs c = rw (← c.self.view_is, ← c.other.view_is) c.in_ok-join.ensures.pairs.pairs
