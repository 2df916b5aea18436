use Rattle.std.proofs.Common.{ℕ, ◌<◌, get_or, All}
use Rattle.hz_grid.specs.declared.usage.UsedRow.{UsedRow}
use Rattle.hz_grid.specs.Rows.{RowsMeet}
use Rattle.hz_unitsets.specs.RowRules.{AllowsRows, FitsRow}
use Rattle.hz_reasons.proofs.calendar.fits_rows.Given as goal

-- the units of each cycle so far fit, and so do the rows that were asked last
abbrev pub invariant-loop-used : goal.invariant-loop-used
invariant-loop-used l = record {
  each : (k : ℕ) (d : UsedRow) → k < l.used-index → FitsRow l.rules l.grid (get_or l.rows k d).cycle (get_or l.rows k d).units;
  last : (RowsMeet l.there l.units → ⊥) × All (λ s. AllowsRows s l.there l.units) l.rules;
}
