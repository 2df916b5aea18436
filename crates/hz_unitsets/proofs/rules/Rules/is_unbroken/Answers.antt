use Rattle.hz_unitsets.proofs.Cycles.{unbroken_rules, rules_unbroken}
use Rattle.hz_unitsets.proofs.rules.Rules.is_unbroken.Goals as goal

pub returns : goal.returns
returns c =
    let rules = c.self.inside.rules.items in
    let none = rw c.deref.ensures.value at c.none_broken.ensures in
    rw (← c.self.view_is) (λ t. unbroken_rules rules c.args.source.now (none.0 t), λ h. none.1 (rules_unbroken rules c.args.source.now h))
