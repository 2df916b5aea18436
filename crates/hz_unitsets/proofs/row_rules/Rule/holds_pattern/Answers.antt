use Rattle.std.proofs.Common.{◌↔◌, IsTrue, rules}
use Rattle.std.specs.List.{Any}
use Rattle.hz_grid.specs.Rows.{IsWithin}
use Rattle.hz_unitsets.proofs.RowUnits.{some_pattern}
use Rattle.hz_unitsets.proofs.row_rules.Rule.holds_pattern.Goals as goal

pub returns : goal.returns
returns c =
    let any : IsTrue c.any.result ↔ Any (λ pattern. IsWithin pattern c.args.row) c.args.self.now.patterns.items = search rules in
    let both = some_pattern c.args.self.now.patterns.items c.args.row c.requires.patterns in
    (λ t. both.0 (any.0 t), λ h. any.1 (both.1 h))
