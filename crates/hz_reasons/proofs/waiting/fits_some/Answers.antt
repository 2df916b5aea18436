use Rattle.std.proofs.Common.{◌≡◌, ℕ, List, All, length, sym, ap, subst, ◌∙◌}
use Rattle.hz_description_model.specs.Reservations.Sets.{Statement}
use Rattle.hz_reasons.specs.Calendars.{AreUnbroken, IsFirstOf}
use Rattle.hz_reasons.specs.Frontiers.{Grids}
use Rattle.hz_reasons.specs.Waiting.{FitsSome}
use Rattle.hz_reasons.specs.declared.plan.Choice.{Choice}
use Rattle.hz_reasons.proofs.WaitingLaws.{some_found}
use Rattle.hz_reasons.proofs.waiting.fits_some.Goals as goal

pub first_fitting-requires-clause-grids : goal.first_fitting-requires-clause-grids
first_fitting-requires-clause-grids c = ap length (c.deref-2.ensures.value ∙ c.calendar-calendar.ensures) ∙ c.requires.each ∙ ap length (sym c.deref.ensures.value)

pub first_fitting-requires-clause-parts : goal.first_fitting-requires-clause-parts
first_fitting-requires-clause-parts c = subst (λ (rules : List (List (Statement ℕ))). All (λ (choice : Choice). length choice.parts.items ≡ length rules) c.args.choices.now) (sym c.deref.ensures.value) c.requires.parts

pub first_fitting-requires-clause-unbroken : goal.first_fitting-requires-clause-unbroken
first_fitting-requires-clause-unbroken c =
    subst (λ (rules : List (List (Statement ℕ))). AreUnbroken rules c.deref-2.result.now) (sym c.deref.ensures.value)
    (subst (AreUnbroken c.args.plan.now.rules.items) (sym (c.deref-2.ensures.value ∙ c.calendar-calendar.ensures)) c.requires.unbroken)

pub returns : goal.returns
returns c =
    let rules = c.args.plan.now.rules.items in
    let first = subst (λ (rs : List (List (Statement ℕ))). IsFirstOf rs c.deref-2.result.now c.args.choices.now c.first_fitting.result) c.deref.ensures.value c.first_fitting.ensures in
    let here = subst (λ (g : Grids). IsFirstOf rules g c.args.choices.now c.first_fitting.result) (c.deref-2.ensures.value ∙ c.calendar-calendar.ensures) first in
    subst (FitsSome rules c.args.choices.now c.args.entry.now) (sym c.is_some.ensures) (some_found rules c.args.choices.now c.args.entry.now c.first_fitting.result here)
