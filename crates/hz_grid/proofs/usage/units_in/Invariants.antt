use Rattle.std.proofs.Common.{take, All}
use Rattle.hz_grid.specs.Rows.{IsWithin}
use Rattle.hz_grid.proofs.usage.units_in.Given as goal

abbrev pub invariant-loop-row : goal.invariant-loop-row
invariant-loop-row l = All (λ row. IsWithin row.units l.units) (take l.row-index l.rows)
