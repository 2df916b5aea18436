use Rattle.hz_grid.proofs.grids.Grid.length.Goals as goal

pub returns-clause-above : goal.returns-clause-above
returns-clause-above c = rw (← c.self.view_is) c.length.ensures.above
