use Rattle.std.proofs.Common.{sym, ap, ◌∙◌}
use Rattle.hz_mdread.specs.Shape.{description}
use Rattle.hz_check_reservations.specs.Places.{site_of, reported}
use Rattle.hz_check.proofs.Telling.CheckSteps.{meaning_reported, skip, stop, few_automata}
use Rattle.hz_description_model.specs.Check.CheckFaults.{self_exclusion, set_across_automata, limit, automata, units, classes}
use Rattle.hz_description_model.proofs.Check.EarliestLaws.{no_site}
use Rattle.hz_check.proofs.faults.steps.placed.Goals as goal

pub returns-in-Some-clause-err : goal.returns-in-Some-clause-err
returns-in-Some-clause-err c =
    meaning_reported (description c.args.names.now.desc.now) c.args.order.now c.requires (record { fault = self_exclusion; site = site_of c.in-Some.site })
    (λ known right. stop (sym c.in_ok-site.ensures ∙ ap reported c.in-Some.is)) c.refused.result c.refused.ensures

pub returns-in-Some-set_across_automata-clause-err : goal.returns-in-Some-set_across_automata-clause-err
returns-in-Some-set_across_automata-clause-err c =
    meaning_reported (description c.args.names.now.desc.now) c.args.order.now c.requires (record { fault = set_across_automata; site = site_of c.in-Some-set_across_automata.site })
    (λ known right. skip (sym c.in_ok-site.ensures ∙ ap reported c.in_default.is) (stop (sym c.in-Some-set_across_automata.ensures)))
    c.refused-in-Some-set_across_automata.result c.refused-in-Some-set_across_automata.ensures

pub returns-in-Some-past_automaton-clause-err : goal.returns-in-Some-past_automaton-clause-err
returns-in-Some-past_automaton-clause-err c =
    meaning_reported (description c.args.names.now.desc.now) c.args.order.now c.requires (record { fault = limit automata; site = site_of c.in-Some-past_automaton.site })
    (λ known right. skip (sym c.in_ok-site.ensures ∙ ap reported c.in_default.is) (skip (sym c.in_default-set_across_automata.ensures) (stop (sym c.in-Some-past_automaton.ensures))))
    c.refused-in-Some-past_automaton.result c.refused-in-Some-past_automaton.ensures

pub past_unit-requires-clause-few : goal.past_unit-requires-clause-few
past_unit-requires-clause-few c = few_automata (description c.args.names.now.desc.now) (sym c.in_default-past_automaton.ensures)

pub returns-in-Some-past_unit-clause-err : goal.returns-in-Some-past_unit-clause-err
returns-in-Some-past_unit-clause-err c =
    meaning_reported (description c.args.names.now.desc.now) c.args.order.now c.requires (record { fault = limit units; site = site_of c.in-Some-past_unit.site })
    (λ known right. skip (sym c.in_ok-site.ensures ∙ ap reported c.in_default.is) (skip (sym c.in_default-set_across_automata.ensures) (skip (sym c.in_default-past_automaton.ensures) (stop (sym c.in-Some-past_unit.ensures)))))
    c.refused-in-Some-past_unit.result c.refused-in-Some-past_unit.ensures

pub returns-in-Some-past_class-clause-err : goal.returns-in-Some-past_class-clause-err
returns-in-Some-past_class-clause-err c =
    meaning_reported (description c.args.names.now.desc.now) c.args.order.now c.requires (record { fault = limit classes; site = site_of c.in-Some-past_class.site })
    (λ known right. skip (sym c.in_ok-site.ensures ∙ ap reported c.in_default.is) (skip (sym c.in_default-set_across_automata.ensures) (skip (sym c.in_default-past_automaton.ensures)
    (skip (sym c.in_default-past_unit.ensures) (stop (sym c.in-Some-past_class.ensures))))))
    c.refused-in-Some-past_class.result c.refused-in-Some-past_class.ensures

pub unit_places-requires-clause-within : goal.unit_places-requires-clause-within
unit_places-requires-clause-within c = no_site _ (sym c.in_default-past_unit.ensures)

pub unit_places-requires-clause-few : goal.unit_places-requires-clause-few
unit_places-requires-clause-few c = few_automata (description c.args.names.now.desc.now) (sym c.in_default-past_automaton.ensures)
