use Rattle.std.proofs.Common.{◌≡◌, ◌<◌, List, length, refl, subst, ◌∙◌, ap, arith}
use Rattle.std.specs.Prelude.{slice_get}
use Rattle.std.proofs.lemmas.Option.{slice_get_read}
use Rattle.hz_reasons.specs.Plans.{choices_at}
use Rattle.hz_reasons.specs.declared.plan.Choice.{Choice}
use Rattle.hz_reasons.proofs.Reading.{choices_read}
use Rattle.hz_reasons.proofs.ReasonMeaning.{reason_read, numbered_read}
use Rattle.hz_reasons.proofs.calendar.Calendar.reason.Goals as goal

pub returns-clause-reason : goal.returns-clause-reason
returns-clause-reason c = λ m s a is future there.
    let choices : choices_at c.args.plan.now c.args.class ≡ c.index-choices.result.now.items = choices_read c.args.plan.now c.args.class c.index-choices.result.now c.index-choices.ensures (omega arith) in
    let low : c.args.number < length c.index-choices.result.now.items = subst (λ (cs : List Choice). c.args.number < length cs) choices c.requires.number in
    reason_read m c.args.plan.now is c.args.self.now.grids.items (omega arith) s future c.args.class c.args.number c.requires.number a there
    c.deref-2.result.now c.deref.result.now c.index.result.now c.first_reason.result c.deref-2.ensures.value c.deref.ensures.value
    (ap (λ (cs : List Choice). slice_get cs c.args.number) choices ∙ slice_get_read c.index-choices.result.now.items (length c.index-choices.result.now.items) c.args.number c.index.result.now refl low c.index.ensures)
    (c.first_reason.ensures.reason s.now)

pub returns-clause-pattern : goal.returns-clause-pattern
returns-clause-pattern c =
    let choices : choices_at c.args.plan.now c.args.class ≡ c.index-choices.result.now.items = choices_read c.args.plan.now c.args.class c.index-choices.result.now c.index-choices.ensures (omega arith) in
    let low : c.args.number < length c.index-choices.result.now.items = subst (λ (cs : List Choice). c.args.number < length cs) choices c.requires.number in
    numbered_read c.deref-2.result.now c.args.plan.now.sets.items c.deref.result.now c.args.self.now.grids.items (choices_at c.args.plan.now c.args.class) c.args.number c.index.result.now c.first_reason.result
    c.deref-2.ensures.value c.deref.ensures.value
    (ap (λ (cs : List Choice). slice_get cs c.args.number) choices ∙ slice_get_read c.index-choices.result.now.items (length c.index-choices.result.now.items) c.args.number c.index.result.now refl low c.index.ensures)
    c.first_reason.ensures.pattern
