use Rattle.std.proofs.Common.{◌≡◌, length, get_or, true, false, refl, sym, subst, below_more, arith}
use Rattle.std.proofs.lemmas.List.{get_or_read_under}
use Rattle.std.proofs.lemmas.List.Elements.{Contains-get_or}
use Rattle.hz_reasons.specs.Calendars.{AreUnbroken}
use Rattle.hz_reasons.specs.Frontiers.{Grids}
use Rattle.hz_reasons.specs.Waiting.{FitsSome}
use Rattle.hz_reasons.proofs.waiting.fits_any.Goals as goal

pub fits_some-requires-clause-each : goal.fits_some-requires-clause-each
fits_some-requires-clause-each c = subst (λ (g : Grids). length g ≡ length c.args.plan.now.rules.items) (sym c.entry-item.is) (c.requires.each c.loop-entry.entry-index c.entry-item.result (omega arith))

pub fits_some-requires-clause-unbroken : goal.fits_some-requires-clause-unbroken
fits_some-requires-clause-unbroken c = subst (AreUnbroken c.args.plan.now.rules.items) (sym c.entry-item.is) (c.requires.unbroken c.loop-entry.entry-index c.entry-item.result (omega arith))

pub returns-then-fits_some : goal.returns-then-fits_some
returns-then-fits_some c = (
  get_or c.args.entries.now c.loop-entry.entry-index c.entry-item.result,
  Contains-get_or c.args.entries.now c.loop-entry.entry-index c.entry-item.result (omega arith),
  subst (λ (g : Grids). FitsSome c.args.plan.now.rules.items c.args.choices.now g true) c.entry-item.is
      (subst (FitsSome c.args.plan.now.rules.items c.args.choices.now c.entry-item.result) c.if-fits_some.true c.fits_some.ensures),
)

pub loop-entry-preserved : goal.loop-entry-preserved
loop-entry-preserved c = below_more _ _ c.loop-entry.invariant (λ d.
    subst (λ (g : Grids). FitsSome c.args.plan.now.rules.items c.args.choices.now g false) (get_or_read_under c.args.entries.now c.loop-entry.entry-index (length c.args.entries.now) c.entry-item.result d c.entry-item.is (omega arith) refl)
    (subst (FitsSome c.args.plan.now.rules.items c.args.choices.now c.entry-item.result) c.if-fits_some.false c.fits_some.ensures))

pub returns : goal.returns
returns c = λ k d low. c.loop-entry.invariant k (omega arith) d
