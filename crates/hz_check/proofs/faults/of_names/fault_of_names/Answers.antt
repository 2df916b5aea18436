use Rattle.std.proofs.Common.{ap, ◌∙◌, None}
use Rattle.hz_check.proofs.Telling.ReportedSteps.{IsReported, reported_first}
use Rattle.hz_description_model.specs.Check.CheckFaults.{twice_defined, reserved_name, unknown_name, unknown_automaton, unit_needs_automaton}
use Rattle.hz_description_model.specs.Check.FirstReported.{reported_at}
use Rattle.hz_check.proofs.faults.of_names.fault_of_names.Goals as goal

pub returns : goal.returns
returns c =
    let unit : IsReported _ _ = record { same = c.at-unit.ensures ∙ ap (λ s. reported_at unit_needs_automaton s None) c.unit_without_automaton.ensures } in
    let all = reported_first c.at-twice.result twice_defined c.or-4.ensures c.at-twice.ensures c.in_ok-second_definition.ensures (reported_first c.at-reserved.result reserved_name c.or-3.ensures c.at-reserved.ensures c.reserved_name.ensures (reported_first c.at-unknown.result unknown_name c.or-2.ensures c.at-unknown.ensures c.unknown_name.ensures (reported_first c.at-automaton.result unknown_automaton c.or.ensures c.at-automaton.ensures c.unknown_automaton.ensures unit))) in
    all.same
