use Rattle.std.proofs.Common.{All, map, ap, sym, ◌∙◌, subst}
use Rattle.hz_altern.specs.Shapes.{alternatives}
use Rattle.hz_description_model.specs.Reservations.AlternativeLists.{IsCuttable}
use Rattle.hz_reasons.specs.Planning.{parts_in, in_parts, classes_in}
use Rattle.hz_reasons.proofs.PlanLaws.{made_more}
use Rattle.hz_reasons.proofs.planning.choices.classes.Goals as goal

pub choices-requires-clause-cuttable : goal.choices-requires-clause-cuttable
choices-requires-clause-cuttable c =
    subst (λ items. All IsCuttable (alternatives items)) (sym c.deref.ensures.value)
    (subst (λ list. All IsCuttable (alternatives list.items)) (sym c.list-item.is) (c.requires.cuttable c.loop-list.list-index c.list-item.result c.loop-list-test.true))

pub loop-list-preserved : goal.loop-list-preserved
loop-list-preserved c =
    let n = c.args.automata in
    ap classes_in c.in_ok-push.ensures.items
    ∙ made_more (λ choices. map parts_in choices.items) (λ list. map (in_parts n) (alternatives list.items)) c.loop-list.classes.items c.args.lists.now c.loop-list.list-index c.in_ok-choices.choices c.list-item.result c.list-item.is c.loop-list-test.true c.loop-list.invariant
    (c.in_ok-choices.ensures ∙ ap (λ items. map (in_parts n) (alternatives items)) c.deref.ensures.value)
