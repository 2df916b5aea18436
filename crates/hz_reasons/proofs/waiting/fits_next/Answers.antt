use Rattle.std.proofs.Common.{◌∙◌, not, sym, ap, subst}
use Rattle.hz_reasons.specs.Waiting.{FitsSome}
use Rattle.hz_reasons.proofs.Meaning.{unbroken_later}
use Rattle.hz_reasons.proofs.WaitingLaws.{none_next}
use Rattle.hz_reasons.proofs.waiting.fits_next.Goals as goal

pub fits_some-requires-clause-each : goal.fits_some-requires-clause-each
fits_some-requires-clause-each c = c.pass.ensures.each ∙ c.requires.each

pub fits_some-requires-clause-unbroken : goal.fits_some-requires-clause-unbroken
fits_some-requires-clause-unbroken c = unbroken_later c.args.plan.now.rules.items 1 c.args.entry.now c.pass.new.reserved c.requires.each c.pass.ensures c.requires.unbroken

pub returns-else-not-stays-clause-fits : goal.returns-else-not-stays-clause-fits
returns-else-not-stays-clause-fits c =
    subst (FitsSome c.args.plan.now.rules.items c.args.choices.now c.pass.new.reserved) (sym (ap not c.if-not-stays.false))
    (none_next c.args.plan.now.rules.items c.args.choices.now c.args.seen c.args.entry.now c.pass.new.reserved c.requires.within c.requires.each c.requires.unbroken c.pass.ensures (c.stays_alike-stays.ensures c.if-not-stays.false) c.requires.none)
