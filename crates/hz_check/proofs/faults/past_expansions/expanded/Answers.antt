use Rattle.std.proofs.Common.{IfErr, Ok, sym, ap, ◌∙◌, subst}
use Rattle.hz_mdread.specs.Shape.{description}
use Rattle.hz_check_reservations.specs.Answers.{IsPastSize}
use Rattle.hz_check_reservations.specs.Places.{site_of, reported}
use Rattle.hz_check_reservations.specs.Orders.{reservings}
use Rattle.hz_description_model.specs.Check.CheckFaults.{limit, alternatives, cycles, size}
use Rattle.hz_check.proofs.Telling.CheckSteps.{after_within, site_past_size, skip, stop}
use Rattle.hz_check.proofs.faults.past_expansions.expanded.Goals as goal

pub returns-in-Some-clause-err : goal.returns-in-Some-clause-err
returns-in-Some-clause-err c =
    after_within (description c.args.desc.now) c.args.order.now c.requires.ordered c.requires.within (record { fault = limit alternatives; site = site_of c.in-Some.site })
    (λ known right. stop (sym (c.in_ok-past.ensures.many known right) ∙ ap reported c.in-Some.is)) c.refused.result c.refused.ensures

pub returns-in-Some-cycles-clause-err : goal.returns-in-Some-cycles-clause-err
returns-in-Some-cycles-clause-err c =
    after_within (description c.args.desc.now) c.args.order.now c.requires.ordered c.requires.within (record { fault = limit cycles; site = site_of c.in-Some-cycles.site })
    (λ known right. skip (sym (c.in_ok-past.ensures.many known right) ∙ ap reported c.in_default.is)
    (stop (sym (c.in_ok-past.ensures.long known right) ∙ ap reported c.in-Some-cycles.is)))
    c.refused-in-Some-cycles.result c.refused-in-Some-cycles.ensures

pub returns-in-Err-clause-err : goal.returns-in-Err-clause-err
returns-in-Err-clause-err c =
    let d = description c.args.desc.now in
    let order = reservings d c.args.order.now in
    let answered = site_past_size d order c.expand_all.result (Ok c.in_ok-lists.field-0) c.expand_all.ensures.err c.in_ok-lists.ensures in
    let past : IsPastSize d order (site_of c.in-Err.site) = subst (λ found. IfErr found (λ site. IsPastSize d order (site_of site))) c.in-Err.is answered in
    after_within d c.args.order.now c.requires.ordered c.requires.within (record { fault = limit size; site = site_of c.in-Err.site })
    (λ known right. skip (sym (c.in_ok-past.ensures.many known right) ∙ ap reported c.in_default.is)
    (skip (sym (c.in_ok-past.ensures.long known right) ∙ ap reported c.in_default-cycles.is)
    (stop (past.first known right))))
    c.refused-in-Err.result c.refused-in-Err.ensures
