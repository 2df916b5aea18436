use Rattle.std.proofs.Common.{subst, sym, refl}
use Rattle.hz_grid.specs.Rows.{HasUnit}
use Rattle.hz_grid.proofs.OrderSteps.{less_in_first, greater_in_first, greater_in_second, less_in_second}
use Rattle.hz_grid.proofs.order.decided.Goals as goal

pub returns-then-has_later : goal.returns-then-has_later
returns-then-has_later g c =
    let set = subst (λ row. HasUnit row c.args.unit) c.row_at.ensures (c.if-has.ensures.0 refl) in
    less_in_first c.args.first.now c.args.second.now c.requires.first c.requires.second c.args.cycle c.args.unit c.requires.differ set (c.if-has_later.ensures.some refl)

pub returns-else-has_later : goal.returns-else-has_later
returns-else-has_later g c =
    let set = subst (λ row. HasUnit row c.args.unit) c.row_at.ensures (c.if-has.ensures.0 refl) in
    greater_in_first c.args.first.now c.args.second.now c.requires.first c.requires.second c.args.cycle c.args.unit c.requires.differ set (λ h. let no = c.if-has_later.ensures.none h in cc)

pub returns-then-has_later-2 : goal.returns-then-has_later-2
returns-then-has_later-2 g c =
    greater_in_second c.args.first.now c.args.second.now c.requires.first c.requires.second c.args.cycle c.args.unit c.requires.differ
    (λ h. let no = c.if-has.ensures.1 (subst (λ row. HasUnit row c.args.unit) (sym c.row_at.ensures) h) in cc)
    (c.if-has_later-2.ensures.some refl)

pub returns-else-has_later-2 : goal.returns-else-has_later-2
returns-else-has_later-2 g c =
    less_in_second c.args.first.now c.args.second.now c.requires.first c.requires.second c.args.cycle c.args.unit c.requires.differ
    (λ h. let no = c.if-has.ensures.1 (subst (λ row. HasUnit row c.args.unit) (sym c.row_at.ensures) h) in cc)
    (λ h. let no = c.if-has_later-2.ensures.none h in cc)
