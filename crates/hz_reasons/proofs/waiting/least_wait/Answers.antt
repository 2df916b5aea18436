use Rattle.std.proofs.Common.{◌≡◌, ℕ, ◌+◌, List, All, true, false, Some, sym, subst, arith}
use Rattle.hz_reasons.specs.Waiting.{FitsSome, FitsAny, GoesOn, EndBefore, IsLeastOf}
use Rattle.hz_reasons.specs.declared.plan.Choice.{Choice}
use Rattle.hz_reasons.proofs.WaitingLaws.{waited_start, waited_more, waited_each, waited_unbroken, waited_none, least_now, least_found, least_none}
use Rattle.hz_reasons.proofs.waiting.least_wait.Goals as goal

pub returns-then-fits_any : goal.returns-then-fits_any
returns-then-fits_any c =
    let plan = c.args.plan.now in
    let entries = c.args.entries.now in
    least_now plan c.args.class entries c.requires.each
    (subst (λ (cs : List Choice). FitsAny plan.rules.items cs entries true) (sym c.requires.choices) (subst (FitsAny plan.rules.items c.args.choices.now entries) c.if-fits_any.true c.fits_any.ensures))

pub loop-cycle-init : goal.loop-cycle-init
loop-cycle-init c =
    let plan = c.args.plan.now in
    let entries = c.args.entries.now in
    waited_start plan c.args.class entries c.requires.each c.requires.unbroken
    (subst (λ (cs : List Choice). FitsAny plan.rules.items cs entries false) (sym c.requires.choices) (subst (FitsAny plan.rules.items c.args.choices.now entries) c.if-fits_any.false c.fits_any.ensures))

pub fits_any_next-requires-clause-each : goal.fits_any_next-requires-clause-each
fits_any_next-requires-clause-each c = waited_each c.args.plan.now c.args.class c.args.entries.now c.requires.each c.loop-cycle.cycle c.loop-cycle.entries c.loop-cycle.invariant

pub fits_any_next-requires-clause-unbroken : goal.fits_any_next-requires-clause-unbroken
fits_any_next-requires-clause-unbroken c = waited_unbroken c.args.plan.now c.args.class c.args.entries.now c.requires.each c.loop-cycle.cycle c.loop-cycle.entries c.loop-cycle.invariant

pub fits_any_next-requires-clause-none : goal.fits_any_next-requires-clause-none
fits_any_next-requires-clause-none c =
    subst (λ (cs : List Choice). All (λ g. FitsSome c.args.plan.now.rules.items cs g false) c.loop-cycle.entries) c.requires.choices
    (waited_none c.args.plan.now c.args.class c.args.entries.now c.requires.each c.loop-cycle.cycle c.loop-cycle.entries c.loop-cycle.invariant)

pub returns-then-fits_any_next : goal.returns-then-fits_any_next
returns-then-fits_any_next c =
    let plan = c.args.plan.now in
    subst (λ (n : ℕ). IsLeastOf plan c.args.class c.args.entries.now (Some (n + 1))) (sym c.from.ensures)
    (least_found plan c.args.class c.args.entries.now c.requires.each c.loop-cycle.cycle c.loop-cycle.entries c.fits_any_next.new.entries c.loop-cycle.invariant
    (subst (λ (cs : List Choice). GoesOn plan.rules.items cs c.loop-cycle.entries c.fits_any_next.new.entries true) (sym c.requires.choices)
    (subst (GoesOn plan.rules.items c.args.choices.now c.loop-cycle.entries c.fits_any_next.new.entries) c.if-fits_any_next.true c.fits_any_next.ensures)))

pub loop-cycle-preserved : goal.loop-cycle-preserved
loop-cycle-preserved c =
    let plan = c.args.plan.now in
    waited_more plan c.args.class c.args.entries.now c.requires.each c.loop-cycle.cycle c.loop-cycle.entries c.fits_any_next.new.entries c.loop-cycle.invariant
    (subst (λ (cs : List Choice). GoesOn plan.rules.items cs c.loop-cycle.entries c.fits_any_next.new.entries false) (sym c.requires.choices)
    (subst (GoesOn plan.rules.items c.args.choices.now c.loop-cycle.entries c.fits_any_next.new.entries) c.if-fits_any_next.false c.fits_any_next.ensures))

pub returns : goal.returns
returns c =
    let plan = c.args.plan.now in
    let last : c.loop-cycle.cycle ≡ c.cycles_of_entries-last.result = omega arith in
    least_none plan c.args.class c.args.entries.now c.requires.each c.loop-cycle.cycle c.loop-cycle.entries
    (subst (λ n. All (EndBefore n) c.args.entries.now) (sym last) c.cycles_of_entries-last.ensures) c.loop-cycle.invariant
