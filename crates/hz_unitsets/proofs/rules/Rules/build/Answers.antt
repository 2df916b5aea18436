use Rattle.std.proofs.Common.{ℕ, List, map, sym, ap, ◌∙◌, subst, All}
use Rattle.std.proofs.lemmas.List.Elements.{All-head, All-tail}
use Rattle.hz_description_model.specs.Reservations.Sets.{Statement}
use Rattle.hz_unitsets.specs.declared.row_rules.Rule.{Rule}
use Rattle.hz_unitsets.specs.SetRules.{statements_of, ordered}
use Rattle.hz_unitsets.specs.RowRules.{statement_in, IsBounded, AreSame}
use Rattle.hz_unitsets.proofs.Cycles.{asked_more, asked_next, asked_all}
use Rattle.hz_unitsets.proofs.Distinct.{sets_ask}
use Rattle.hz_unitsets.proofs.rules.Rules.build.Goals as goal

pub of-asked-requires : goal.of-asked-requires
of-asked-requires c = All-head IsBounded c.in-Some.rule c.next.new.self (subst (All IsBounded) c.in-Some.ensures.steps c.loop-rule.invariant.rest)

pub loop-rule-preserved : goal.loop-rule-preserved
loop-rule-preserved c = rw c.in_ok-push.ensures.items (record {
  asked = asked_more c.loop-rule.rules.items c.of-asked.result c.loop-rule.triggers c.join-triggers.result c.loop-rule.invariant.asked c.of-asked.ensures.asked c.join-triggers.ensures;
  rest = All-tail IsBounded c.in-Some.rule c.next.new.self (subst (All IsBounded) c.in-Some.ensures.steps c.loop-rule.invariant.rest);
  all = asked_next _ c.of-asked.result _ c.in-Some.rule c.next.new.self _ c.in-Some.ensures.steps c.of-asked.ensures.statement c.loop-rule.invariant.all;
})

pub returns-clause-same : goal.returns-clause-same
returns-clause-same c =
    let all = asked_all c.loop-rule.rules.items c.loop-rule.rule-iterator _ c.in-None.ensures.steps.0 c.loop-rule.invariant.all in
    let keys = all ∙ ap (λ (rules : List Rule). map statement_in rules) c.into_iter-rule-iterator.ensures.into_iter_gives.0 in
    sets_ask c.args.sets.now _ c.requires (subst (λ (first : List (Statement ℕ)). AreSame first (map ordered (statements_of c.args.sets.now))) (sym keys) c.in_ok-rule-items.ensures.same)
