use Rattle.hz_grid.proofs.Units.{same_from_units}
use Rattle.hz_grid.proofs.rows.rows_are_sets_of_units.Goals as goal

pub returns : goal.returns
returns c = same_from_units
