use Rattle.hz_unitsets.proofs.RowUnits.{some_unit}
use Rattle.hz_unitsets.proofs.row_rules.Rule.holds_some.Goals as goal

pub returns : goal.returns
returns c =
    let both = some_unit c.args.self.now.units c.args.row c.requires.units in
    (λ t. both.0 (c.meets.ensures.0 t), λ h. c.meets.ensures.1 (both.1 h))
