use Rattle.hz_grid.proofs.Units.{HasUnit-zero}
use Rattle.hz_grid.proofs.WordLemmas.{row_of-zeros}
use Rattle.hz_grid.proofs.rows.Row.empty.Goals as goal

pub returns : goal.returns
returns g c unit h = HasUnit-zero unit (rw (row_of-zeros g.row.N) at h)
