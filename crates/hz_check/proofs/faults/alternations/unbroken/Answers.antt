use Rattle.std.proofs.Common.{sym, ap, ◌∙◌}
use Rattle.hz_mdread.specs.Shape.{description}
use Rattle.hz_check_reservations.specs.Places.{site_of, reported}
use Rattle.hz_description_model.specs.Check.CheckFaults.{alternation_of_two_automata, alternation_of_two_lengths}
use Rattle.hz_check.proofs.Telling.CheckSteps.{after_within, skip, stop}
use Rattle.hz_check.proofs.faults.alternations.unbroken.Goals as goal

pub returns-in-Some-clause-err : goal.returns-in-Some-clause-err
returns-in-Some-clause-err c =
    after_within (description c.args.desc.now) c.args.order.now c.requires.ordered c.requires.within (record { fault = alternation_of_two_automata; site = site_of c.in-Some.site })
    (λ known right. skip (c.requires.extents.few known right) (skip (c.requires.extents.short known right) (skip (c.requires.expanded.within known right)
    (stop (sym (c.in_ok-broken.ensures.mixed known right) ∙ ap reported c.in-Some.is)))))
    c.refused.result c.refused.ensures

pub returns-in-Some-uneven-clause-err : goal.returns-in-Some-uneven-clause-err
returns-in-Some-uneven-clause-err c =
    after_within (description c.args.desc.now) c.args.order.now c.requires.ordered c.requires.within (record { fault = alternation_of_two_lengths; site = site_of c.in-Some-uneven.site })
    (λ known right. skip (c.requires.extents.few known right) (skip (c.requires.extents.short known right) (skip (c.requires.expanded.within known right)
    (skip (sym (c.in_ok-broken.ensures.mixed known right) ∙ ap reported c.in_default.is)
    (stop (sym (c.in_ok-broken.ensures.uneven known right) ∙ ap reported c.in-Some-uneven.is))))))
    c.refused-in-Some-uneven.result c.refused-in-Some-uneven.ensures

pub returns-in-None-clause-rules : goal.returns-in-None-clause-rules
returns-in-None-clause-rules c = record {
  mixed = λ known right. sym (c.in_ok-broken.ensures.mixed known right) ∙ ap reported c.in_default.is;
  uneven = λ known right. sym (c.in_ok-broken.ensures.uneven known right) ∙ ap reported c.in-None.is;
}
