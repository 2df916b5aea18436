use Rattle.std.proofs.Common.{ℕ, ◌≤◌, ◌<◌, ◌+◌}
use Rattle.hz_grid.specs.Rows.{HasUnit}
use Rattle.hz_bound.proofs.tallies.mask_from.Given as goal

-- the units up to one are in the mask
abbrev pub invariant-loop-unit : goal.invariant-loop-unit
invariant-loop-unit l = (u : ℕ) → l.first ≤ u → u < l.first + l.unit → HasUnit l.mask u
