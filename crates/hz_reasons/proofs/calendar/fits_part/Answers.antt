use Rattle.std.proofs.Common.{get_or}
use Rattle.hz_unitsets.proofs.Cycles.{grids_apart}
use Rattle.hz_unitsets.proofs.RowFits.{row_of_fitting, fits_of_rows}
use Rattle.hz_reasons.proofs.calendar.fits_part.Goals as goal

pub returns-then-not-meets : goal.returns-then-not-meets
returns-then-not-meets c =
    let rows = c.rows.result.now in (
      λ t. fits_of_rows c.args.rules.now c.args.grid.now c.args.part.now rows c.requires c.rows.ensures (c.fits_rows.ensures.0 t),
      λ h. c.fits_rows.ensures.1 (λ k d low. row_of_fitting c.args.rules.now c.args.grid.now c.args.part.now (get_or rows k d) (c.rows.ensures.each k d low) h),
    )

pub returns-else-not-meets : goal.returns-else-not-meets
returns-else-not-meets c = rw c.if-not-meets.false (
  λ t. absurd (cc),
  λ h. absurd (grids_apart c.args.rules.now c.args.grid.now c.args.part.now h (c.meets.ensures.0 c.if-not-meets.false)),
)
