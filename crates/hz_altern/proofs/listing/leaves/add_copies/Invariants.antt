use Rattle.std.proofs.Common.{take}
use Rattle.hz_altern.specs.Leaves.{AddsCopies}
use Rattle.hz_altern.proofs.listing.leaves.add_copies.Given as goal

-- the copies of the names so far are added
abbrev pub invariant-loop-place : goal.invariant-loop-place
invariant-loop-place l = AddsCopies (take l.place l.once.names.entries) l.times l.apart l.start l.initial.leaves l.leaves
