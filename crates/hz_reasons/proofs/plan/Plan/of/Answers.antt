use Rattle.std.proofs.Common.{◌≡◌, ◌∙◌, All, length, map, sym, ap, subst, arith}
use Rattle.hz_altern.specs.Shapes.{alternatives}
use Rattle.hz_check.specs.Parts.Assembly.{placed_statement}
use Rattle.hz_description_model.specs.Reservations.AlternativeLists.{IsCuttable}
use Rattle.hz_unitsets.specs.SetRules.{IsInRange}
use Rattle.hz_reasons.specs.Planning.{in_classes, AreRulesUpTo}
use Rattle.hz_reasons.proofs.PlanLaws.{plan_of, cuttable_lists, sets_in_range, few_automata, many_classes, wide_of}
use Rattle.hz_reasons.proofs.plan.Plan.of.Goals as goal

pub rules-requires : goal.rules-requires
rules-requires c = subst (All (λ automaton. All IsInRange automaton.sets.items)) (sym c.deref-2.ensures.value) (sets_in_range c.requires.parts.0 c.args.parts.now c.requires.parts.1 c.requires.parts.2)

pub classes-requires-clause-few : goal.classes-requires-clause-few
classes-requires-clause-few c =
    let few = few_automata c.requires.parts.0 c.args.parts.now c.requires.parts.1 c.requires.parts.2 in
    let count = c.len.ensures in
    let stored = c.args.parts.now.automata.ok.0 in
    omega (arith, few, count, stored)

pub classes-requires-clause-cuttable : goal.classes-requires-clause-cuttable
classes-requires-clause-cuttable c = subst (All (λ list. All IsCuttable (alternatives list.items))) (sym c.deref-3.ensures.value) (cuttable_lists c.requires.parts.0 c.args.parts.now c.requires.parts.2)

pub returns-clause-rules : goal.returns-clause-rules
returns-clause-rules c = omega (arith, c.args.parts.now.automata.ok.0, c.in_ok-rules.ensures.each, ap length c.deref-2.ensures.value, c.in_ok-rules.rules.ok.0)

pub returns-clause-classes : goal.returns-clause-classes
returns-clause-classes c =
    let count = many_classes c.len.result c.in_ok-classes.classes.items c.deref-3.result.now c.in_ok-classes.ensures in
    omega (arith, c.args.parts.now.lists.ok.0, count, ap length c.deref-3.ensures.value, c.in_ok-classes.classes.ok.0)

pub returns-clause-wide : goal.returns-clause-wide
returns-clause-wide c =
    let count = c.len.ensures in
    let stored = c.args.parts.now.automata.ok.0 in
    let each = c.in_ok-rules.ensures.each in
    let same = ap length c.deref-2.ensures.value in
    λ k d low i e lower. let wide = wide_of c.len.result c.in_ok-classes.classes.items c.deref-3.result.now c.in_ok-classes.ensures k d low i e lower in omega (arith, wide, count, stored, each, same)

pub returns-clause-plan : goal.returns-clause-plan
returns-clause-plan c =
    let parts = c.args.parts.now in
    let count : c.len.result ≡ length parts.automata.items = omega (arith, c.len.ensures, parts.automata.ok.0) in
    let rules = subst (λ automata. AreRulesUpTo (length automata) automata c.in_ok-rules.rules.items) c.deref-2.ensures.value c.in_ok-rules.ensures in
    let sets = c.in_ok-sets.ensures ∙ ap (map placed_statement) c.deref.ensures.value in
    let classes = c.in_ok-classes.ensures ∙ (ap (in_classes c.len.result) c.deref-3.ensures.value ∙ ap (λ n. in_classes n parts.lists.items) count) in
    λ d is same. plan_of d parts is (record { sets = c.in_ok-sets.sets; rules = c.in_ok-rules.rules; classes = c.in_ok-classes.classes; any_fit = c.args.any_fit }) rules sets classes same
