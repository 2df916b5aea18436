use Rattle.std.proofs.Common.{take}
use Rattle.std.specs.Prelude.{All}
use Rattle.hz_grid.specs.Grids.{IsGrid}
use Rattle.hz_tabfile.proofs.writing.ranges.are_grids.Given as goal

abbrev pub invariant-loop-grid : goal.invariant-loop-grid
invariant-loop-grid l = All IsGrid (take l.grid-index l.grids)
