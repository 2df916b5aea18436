use Rattle.std.proofs.Common.{◌∙◌, subst}
use Rattle.hz_reasons.specs.Waiting.{AreSteady}
use Rattle.hz_reasons.proofs.waiting.stays_alike.Goals as goal

pub returns : goal.returns
returns c = λ steady. subst (AreSteady c.args.cycles) (c.deref.ensures.value ∙ c.calendar-calendar.ensures) (c.are_steady.ensures steady)
