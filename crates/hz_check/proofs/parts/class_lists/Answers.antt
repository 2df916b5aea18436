use Rattle.std.proofs.Common.{sym, ap, ◌∙◌, subst}
use Rattle.hz_mdread.specs.Shape.{description}
use Rattle.hz_check.proofs.Telling.CheckSteps.{after_within, skip, stop}
use Rattle.hz_description_model.specs.Check.CheckFaults.{bypass_twice, query_under_ndfa}
use Rattle.hz_check_reservations.specs.Answers.{AreExpanded}
use Rattle.hz_check_reservations.specs.Orders.{reservings}
use Rattle.hz_check_reservations.specs.Places.{site_of, reported}
use Rattle.hz_check.proofs.parts.class_lists.Goals as goal

pub returns-in-Some-clause-err : goal.returns-in-Some-clause-err
returns-in-Some-clause-err c =
    after_within (description c.args.names.now.desc.now) c.args.order.now c.requires.ordered c.requires.within (record { fault = bypass_twice; site = site_of c.in-Some.site })
    (λ known right. skip (c.in-Ok.ensures.extents.few known right) (skip (c.in-Ok.ensures.extents.short known right) (skip (c.in-Ok.ensures.ok.within known right)
    (skip (c.in-Ok-unbroken.ensures.rules.mixed known right) (skip (c.in-Ok-unbroken.ensures.rules.uneven known right) (stop (sym c.in_ok-site.ensures ∙ ap reported c.in-Some.is)))))))
    c.refused.result c.refused.ensures

pub returns-in-Some-query_under_ndfa-clause-err : goal.returns-in-Some-query_under_ndfa-clause-err
returns-in-Some-query_under_ndfa-clause-err c =
    after_within (description c.args.names.now.desc.now) c.args.order.now c.requires.ordered c.requires.within (record { fault = query_under_ndfa; site = site_of c.in-Some-query_under_ndfa.site })
    (λ known right. skip (c.in-Ok.ensures.extents.few known right) (skip (c.in-Ok.ensures.extents.short known right) (skip (c.in-Ok.ensures.ok.within known right)
    (skip (c.in-Ok-unbroken.ensures.rules.mixed known right) (skip (c.in-Ok-unbroken.ensures.rules.uneven known right) (skip (sym c.in_ok-site.ensures ∙ ap reported c.in_default.is) (stop (sym c.in-Some-query_under_ndfa.ensures))))))))
    c.refused-in-Some-query_under_ndfa.result c.refused-in-Some-query_under_ndfa.ensures

pub returns-clause-ok : goal.returns-clause-ok
returns-clause-ok c =
    let d = description c.args.names.now.desc.now in
    record {
      expanded = subst (λ items. AreExpanded d (reservings d c.args.order.now) items) (sym c.in-Ok-unbroken.ensures.same) c.in-Ok.ensures.ok;
      extents = c.in-Ok.ensures.extents;
      rules = c.in-Ok-unbroken.ensures.rules;
      once = sym c.in_ok-site.ensures ∙ ap reported c.in_default.is;
      queries = sym c.in_default-query_under_ndfa.ensures;
    }
