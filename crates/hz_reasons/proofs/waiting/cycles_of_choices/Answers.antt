use Rattle.std.proofs.Common.{◌∙◌, sym, ap, arith}
use Rattle.hz_reasons.specs.declared.plan.Choice.{Choice}
use Rattle.hz_reasons.proofs.Reading.{parts_read}
use Rattle.hz_reasons.proofs.WaitingLaws.{within_more, within_all}
use Rattle.hz_reasons.proofs.waiting.cycles_of_choices.Goals as goal

pub loop-choice-preserved : goal.loop-choice-preserved
loop-choice-preserved c =
    within_more c.args.choices.now c.loop-choice.choice-index c.deref.result.now c.cycles_of_parts.result c.loop-choice.cycles _
    (parts_read c.args.choices.now c.loop-choice.choice-index c.choice-item.result (omega arith) ∙ ap (λ (choice : Choice). choice.parts.items) (sym c.choice-item.is) ∙ sym c.deref.ensures.value)
    (omega arith) c.cycles_of_parts.ensures c.loop-choice.invariant

pub returns : goal.returns
returns c = within_all c.args.choices.now c.loop-choice.choice-index c.loop-choice.cycles (omega arith) c.loop-choice.invariant
