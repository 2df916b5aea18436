use Rattle.std.proofs.Common.{sym, ap, ◌∙◌}
use Rattle.std.specs.Option.{option_map}
use Rattle.hz_mdread.specs.Shape.{description}
use Rattle.hz_check.specs.Faults.{reported_of}
use Rattle.hz_check.proofs.Telling.CheckSteps.{name_reported}
use Rattle.hz_description_model.specs.Check.CheckFaults.{faults_of_names}
use Rattle.hz_description_model.specs.Check.FirstReported.{first_reported}
use Rattle.hz_check.proofs.faults.steps.named.Goals as goal

pub returns-in-Some-clause-err : goal.returns-in-Some-clause-err
returns-in-Some-clause-err c =
    name_reported (description c.args.desc.now) (reported_of c.in-Some.reported)
    (ap (λ desc. first_reported (faults_of_names (description desc))) (sym c.in_ok-names.ensures) ∙ (sym c.in_ok-reported.ensures ∙ ap (option_map reported_of) c.in-Some.is)) c.fault.result c.fault.ensures
