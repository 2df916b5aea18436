use Rattle.hz_unitsets.proofs.RowFits.{row_unbroken, row_fits}
use Rattle.hz_unitsets.proofs.rules.Rules.fits_row.Goals as goal

pub allow_rows-requires : goal.allow_rows-requires
allow_rows-requires c = row_unbroken c.args.self.now c.args.source.now c.args.cycle c.row-there.result c.row-there.ensures c.requires

pub returns-then-not-meets : goal.returns-then-not-meets
returns-then-not-meets c =
    let both = row_fits c.args.self.now c.args.source.now c.args.cycle c.row-there.result c.row-there.ensures c.args.units in (
      λ t. both.0 (λ m. let e = c.meets.ensures.1 m in let n = c.if-not-meets.true in absurd (cc), c.allow_rows.ensures.0 t),
      λ h. c.allow_rows.ensures.1 ((both.1 h).1),
    )

pub returns-else-not-meets : goal.returns-else-not-meets
returns-else-not-meets c =
    let both = row_fits c.args.self.now c.args.source.now c.args.cycle c.row-there.result c.row-there.ensures c.args.units in
    rw c.if-not-meets.false (
      λ t. absurd (cc),
      λ h. absurd ((both.1 h).0 (c.meets.ensures.0 c.if-not-meets.false)),
    )
