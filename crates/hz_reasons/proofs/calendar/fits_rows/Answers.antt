use Rattle.std.proofs.Common.{◌≡◌, get_or, sym, subst, arith}
use Rattle.std.proofs.lemmas.List.{get_or_read}
use Rattle.hz_grid.specs.declared.usage.UsedRow.{UsedRow}
use Rattle.hz_unitsets.specs.RowRules.{FitsRow}
use Rattle.hz_unitsets.proofs.Cycles.{nothing_allowed}
use Rattle.hz_unitsets.proofs.Blocks.{more_items}
use Rattle.hz_unitsets.proofs.RowFits.{row_fits}
use Rattle.hz_reasons.proofs.calendar.fits_rows.Goals.{then-not-has_same_rows+else-not-fits_row, else-not-has_same_rows}
use Rattle.hz_reasons.proofs.calendar.fits_rows.Goals as goal

pub loop-used-init : goal.loop-used-init
loop-used-init c = record {
  each = λ k d low. absurd (omega (arith, low));
  last = (λ m. c.empty-there.ensures m.0 m.1, λ k d low. nothing_allowed _ _ _ c.empty-there.ensures c.empty-units.ensures);
}

pub loop-used-preserved : goal.loop-used-preserved
loop-used-preserved c =
    let rules = c.args.rules.now in
    let grid = c.args.grid.now in
    let rows = c.args.rows.now in
    let at = c.loop-used.used-index in
    let used = c.used-item.result in
    let both = row_fits rules grid used.cycle c.row-here.result c.row-here.ensures used.units in
    let read : (e : UsedRow) → used ≡ get_or rows at e = λ e. get_or_read rows at used c.loop-used-test.true c.used-item.is e in
    elim c.if-not-has_same_rows.branch [
      | then-not-has_same_rows+else-not-fits_row w ↦
          let fits = w.fits_row.ensures.0 w.if-not-fits_row.false in
          rw (w.there-is, w.units-is) (record {
            each = more_items (λ (row : UsedRow). FitsRow rules grid row.cycle row.units) rows at used c.loop-used.invariant.each read fits;
            last = both.1 fits;
          })
      | else-not-has_same_rows w ↦
          let same = c.has_same_rows.ensures w.if-not-has_same_rows.false in
          rw (w.there-is, w.units-is) (record {
            each = more_items (λ (row : UsedRow). FitsRow rules grid row.cycle row.units) rows at used c.loop-used.invariant.each read (both.0 (rw (same.0, same.1) c.loop-used.invariant.last));
            last = c.loop-used.invariant.last;
          })
    ]

pub returns-then-not-fits_row : goal.returns-then-not-fits_row
returns-then-not-fits_row c = (
  λ t. absurd (cc),
  λ h.
      let here = subst (λ (row : UsedRow). FitsRow c.args.rules.now c.args.grid.now row.cycle row.units) (sym c.used-item.is) (h c.loop-used.used-index c.used-item.result c.loop-used-test.true) in
      let t = c.fits_row.ensures.1 here in
      let n = c.if-not-fits_row.true in
      absurd (cc),
)
