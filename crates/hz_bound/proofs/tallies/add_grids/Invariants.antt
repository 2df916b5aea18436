use Rattle.std.proofs.Common.{take, length}
use Rattle.hz_bound.specs.Tallies.{AreTallies}
use Rattle.hz_bound.proofs.tallies.add_grids.Given as goal

-- the pairs of the grids so far are reported
abbrev pub invariant-loop-index : goal.invariant-loop-index
invariant-loop-index l = AreTallies (take l.index l.list) (length l.initial.tallies) l.tallies
