use Rattle.std.proofs.Common.{sym, subst, map, All, List}
use Rattle.hz_unitsets.specs.declared.row_rules.Rule.{Rule}
use Rattle.hz_unitsets.specs.RowRules.{statement_in, IsBounded, IsKept}
use Rattle.hz_unitsets.proofs.Distinct.{kept, bounded_kept}
use Rattle.hz_unitsets.proofs.rules.keep.Goals as goal

pub returns-clause-bounded : goal.returns-clause-bounded
returns-clause-bounded c = subst (All IsBounded) (sym c.in_ok-insert.ensures.keys) (bounded_kept c.args.rules.now.keys c.args.rule c.requires.rules c.requires.rule)

pub returns-clause-kept : goal.returns-clause-kept
returns-clause-kept c = subst (λ (new : List Rule). IsKept (map statement_in c.args.rules.now.keys) (statement_in c.args.rule) (map statement_in new)) (sym c.in_ok-insert.ensures.keys) (kept c.args.rules.now.keys c.args.rule c.requires.rules c.requires.rule)
