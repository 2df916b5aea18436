use Rattle.std.proofs.Common.{◌+◌, map, take, ap, sym, ◌∙◌}
use Rattle.hz_altern.specs.Shapes.{alternative_of}
use Rattle.hz_altern.proofs.ListLemmas.{item_holds}
use Rattle.hz_description_model.specs.Reservations.AlternativeLists.{IsCuttable}
use Rattle.hz_reasons.specs.Planning.{parts_in, in_parts}
use Rattle.hz_reasons.proofs.PlanLaws.{made_more, map_twice}
use Rattle.hz_reasons.proofs.planning.choices.choices.Goals as goal

pub choice-requires-clause-cuttable : goal.choice-requires-clause-cuttable
choice-requires-clause-cuttable c = item_holds IsCuttable alternative_of c.args.alts.now c.loop-alt.alt-index c.alt-item.result c.loop-alt-test.true c.alt-item.is c.requires.cuttable

pub loop-alt-preserved : goal.loop-alt-preserved
loop-alt-preserved c =
    let n = c.args.automata in
    let alts = c.args.alts.now in
    let k = c.loop-alt.alt-index in
    ap (map parts_in) c.in_ok-push.ensures.items
    ∙ (made_more parts_in (λ alt. in_parts n (alternative_of alt)) c.loop-alt.choices.items alts k c.in_ok-choice.choice c.alt-item.result c.alt-item.is c.loop-alt-test.true (c.loop-alt.invariant ∙ map_twice (in_parts n) alternative_of (take k alts)) c.in_ok-choice.ensures
    ∙ sym (map_twice (in_parts n) alternative_of (take (k + 1) alts)))
