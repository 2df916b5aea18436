use Rattle.std.proofs.Common.{◌≡◌, take}
use Rattle.hz_grid.proofs.grid_of.widened.Given as goal

-- the rows so far
abbrev pub invariant-loop-row : goal.invariant-loop-row
invariant-loop-row g l = l.all.items ≡ take l.row-index l.rows
