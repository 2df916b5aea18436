use Rattle.hz_grid.proofs.Pairs.{IsGrid-pairs_from}
use Rattle.hz_grid.proofs.Steps.{HoldsJust-rows}
use Rattle.hz_grid.proofs.grid_of.GridOf.of.Goals as goal

pub returns-clause-grid : goal.returns-clause-grid
returns-clause-grid g c = IsGrid-pairs_from _ c.in_ok-rows_of.ensures.rows

pub returns-clause-pairs : goal.returns-clause-pairs
returns-clause-pairs g c = HoldsJust-rows c.args.pairs.now _ c.in_ok-rows_of.ensures.rows c.in_ok-rows_of.ensures.units
