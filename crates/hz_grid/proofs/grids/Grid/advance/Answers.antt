use Rattle.hz_grid.proofs.grids.Grid.advance.Goals as goal

pub returns-clause-pairs : goal.returns-clause-pairs
returns-clause-pairs c = rw (← c.self.view_is) c.advance.ensures.pairs.pairs
