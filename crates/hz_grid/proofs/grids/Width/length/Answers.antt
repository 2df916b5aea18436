use Rattle.hz_grid.proofs.grids.Width.length.Goals as goal

pub returns-in-One-clause-above : goal.returns-in-One-clause-above
returns-in-One-clause-above c = rw c.in-One.is c.length.ensures.above

pub returns-in-Two-clause-above : goal.returns-in-Two-clause-above
returns-in-Two-clause-above c = rw c.in-Two.is c.length-in-Two.ensures.above

pub returns-in-Four-clause-above : goal.returns-in-Four-clause-above
returns-in-Four-clause-above c = rw c.in-Four.is c.length-in-Four.ensures.above
