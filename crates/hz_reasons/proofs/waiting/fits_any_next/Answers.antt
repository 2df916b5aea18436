use Rattle.std.proofs.Common.{◌≡◌, length, false, [], ◌∙◌, sym, subst, arith}
use Rattle.hz_reasons.specs.Calendars.{AreUnbroken, AreLaterBy}
use Rattle.hz_reasons.specs.Frontiers.{Grids}
use Rattle.hz_reasons.specs.Waiting.{FitsSome}
use Rattle.hz_reasons.proofs.WaitingLaws.{next_start, next_more, next_read, next_fits, next_all}
use Rattle.hz_reasons.proofs.waiting.fits_any_next.Goals as goal

pub loop-entry-init : goal.loop-entry-init
loop-entry-init c = next_start c.args.plan.now.rules.items c.args.choices.now c.args.entries.now

pub fits_next-requires-clause-each : goal.fits_next-requires-clause-each
fits_next-requires-clause-each c =
    let each = c.loop-entry.invariant.each in
    subst (λ (g : Grids). length g ≡ length c.args.plan.now.rules.items) (sym (next_read c.args.plan.now.rules.items c.args.choices.now c.loop-entry.entry-index c.args.entries.now c.loop-entry.entries c.entry-item.result c.loop-entry.invariant (omega arith) c.entry-item.is) ∙ c.entry-item.is)
    (c.requires.each c.loop-entry.entry-index [] (omega arith))

pub fits_next-requires-clause-unbroken : goal.fits_next-requires-clause-unbroken
fits_next-requires-clause-unbroken c =
    let each = c.loop-entry.invariant.each in
    subst (AreUnbroken c.args.plan.now.rules.items) (sym (next_read c.args.plan.now.rules.items c.args.choices.now c.loop-entry.entry-index c.args.entries.now c.loop-entry.entries c.entry-item.result c.loop-entry.invariant (omega arith) c.entry-item.is) ∙ c.entry-item.is)
    (c.requires.unbroken c.loop-entry.entry-index [] (omega arith))

pub fits_next-requires-clause-none : goal.fits_next-requires-clause-none
fits_next-requires-clause-none c =
    let each = c.loop-entry.invariant.each in
    subst (λ (g : Grids). FitsSome c.args.plan.now.rules.items c.args.choices.now g false) (sym (next_read c.args.plan.now.rules.items c.args.choices.now c.loop-entry.entry-index c.args.entries.now c.loop-entry.entries c.entry-item.result c.loop-entry.invariant (omega arith) c.entry-item.is) ∙ c.entry-item.is)
    (c.requires.none c.loop-entry.entry-index [] (omega arith))

pub returns-then-fits_next : goal.returns-then-fits_next
returns-then-fits_next c =
    next_fits c.args.plan.now.rules.items c.args.choices.now c.loop-entry.entry-index c.args.entries.now c.loop-entry.entries c.entry-item.result c.fits_next.new.entry c.loop-entry.invariant (omega arith) c.entry-item.is
    (subst (λ (g : Grids). AreLaterBy 1 g c.fits_next.new.entry) (sym c.entry-item.is) c.fits_next.ensures.moves)
    (subst (FitsSome c.args.plan.now.rules.items c.args.choices.now c.fits_next.new.entry) c.if-fits_next.true c.fits_next.ensures.fits)

pub loop-entry-preserved : goal.loop-entry-preserved
loop-entry-preserved c =
    next_more c.args.plan.now.rules.items c.args.choices.now c.loop-entry.entry-index c.args.entries.now c.loop-entry.entries c.entry-item.result c.fits_next.new.entry c.loop-entry.invariant (omega arith) c.entry-item.is (record {
      moves = subst (λ (g : Grids). AreLaterBy 1 g c.fits_next.new.entry) (sym c.entry-item.is) c.fits_next.ensures.moves;
      none = subst (FitsSome c.args.plan.now.rules.items c.args.choices.now c.fits_next.new.entry) c.if-fits_next.false c.fits_next.ensures.fits;
    })

pub returns : goal.returns
returns c = next_all c.args.plan.now.rules.items c.args.choices.now c.loop-entry.entry-index c.args.entries.now c.loop-entry.entries c.loop-entry.invariant (omega arith)
