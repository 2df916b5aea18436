use Rattle.std.proofs.Common.{arith, below_more, refl}
use Rattle.hz_unitsets.proofs.Cycles.{grids_unbroken}
use Rattle.hz_unitsets.proofs.RowFits.{fits_at, row_of_cycle, fits_of_cycles}
use Rattle.hz_unitsets.proofs.rules.Rules.fits.Goals as goal

pub loop-cycle-preserved : goal.loop-cycle-preserved
loop-cycle-preserved c = below_more _ _ c.loop-cycle.invariant
    (fits_at c.args.self.now c.args.source.now c.args.add.now c.loop-cycle.cycle c.row.result c.row.ensures (c.fits_row.ensures.0 c.if-not-fits_row.false))

pub returns-then-not-is_unbroken : goal.returns-then-not-is_unbroken
returns-then-not-is_unbroken c = (
  λ t. absurd (cc),
  λ h. let e = c.is_unbroken.ensures.1 (grids_unbroken c.args.self.now c.args.source.now c.args.add.now h) in let n = c.if-not-is_unbroken.true in absurd (cc),
)

pub returns-then-not-fits_row : goal.returns-then-not-fits_row
returns-then-not-fits_row c = (
  λ t. absurd (cc),
  λ h. let e = c.fits_row.ensures.1 (row_of_cycle c.args.self.now c.args.source.now c.args.add.now c.loop-cycle.cycle c.row.result c.row.ensures h) in let n = c.if-not-fits_row.true in absurd (cc),
)

pub returns : goal.returns
returns c = (
  λ _. fits_of_cycles c.args.self.now c.args.source.now c.args.add.now c.length-cycle-end.result (c.is_unbroken.ensures.0 c.if-not-is_unbroken.false) c.length-cycle-end.ensures.above
      (λ cycle below. c.loop-cycle.invariant cycle (omega (arith, below, c.loop-cycle-test.false))),
  λ _. refl,
)
