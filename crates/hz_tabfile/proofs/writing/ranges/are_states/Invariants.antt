use Rattle.std.proofs.Common.{take}
use Rattle.std.specs.Prelude.{All}
use Rattle.hz_grid.specs.Grids.{IsGrid}
use Rattle.hz_tabfile.proofs.writing.ranges.are_states.Given as goal

abbrev pub invariant-loop-grids : goal.invariant-loop-grids
invariant-loop-grids l = All (λ grids. All IsGrid grids.items) (take l.grids-index l.states)
