use Rattle.hz_tabfile.proofs.writing.ranges.are_counts.Goals as goal

pub returns : goal.returns
returns c = record { grids = c.ranges.grids.fits; states = c.ranges.states.fits; members = c.ranges.members.fits }
