use Rattle.std.proofs.Common.{refl}
use Rattle.hz_unitsets.proofs.Cycles.{rows_of_statements, allow_rows_rules, none_touched_rows}
use Rattle.hz_unitsets.proofs.rules.Rules.allow_rows.Goals as goal

pub all_allow_rows_in_blocks-requires-clause-unbroken : goal.all_allow_rows_in_blocks-requires-clause-unbroken
all_allow_rows_in_blocks-requires-clause-unbroken c =
    let rules = c.self.inside.rules.items in
    rw c.deref.ensures.value (rows_of_statements rules c.args.there (rw (← c.self.view_is) at c.requires))

pub returns-then-not-meets : goal.returns-then-not-meets
returns-then-not-meets c =
    let rules = c.self.inside.rules.items in
    let unbroken = rows_of_statements rules c.args.there (rw (← c.self.view_is) at c.requires) in
    let none = none_touched_rows rules c.self.inside.triggers c.args.there c.args.added c.self.invariant.asked unbroken (λ m. let e = c.meets.ensures.1 m in let n = c.if-not-meets.true in absurd (cc)) in
    rw (← c.self.view_is, c.if-not-meets.true) (λ _. (allow_rows_rules rules c.args.there c.args.added).0 none, λ _. refl)

pub returns-else-not-meets : goal.returns-else-not-meets
returns-else-not-meets c =
    let rules = c.self.inside.rules.items in
    let all = rw c.deref.ensures.value at c.all_allow_rows_in_blocks.ensures in
    let both = allow_rows_rules rules c.args.there c.args.added in
    rw (← c.self.view_is) (λ t. both.0 (all.0 t), λ h. all.1 (both.1 h))
