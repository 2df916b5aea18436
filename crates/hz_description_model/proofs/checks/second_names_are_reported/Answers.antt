use Rattle.hz_description_model.proofs.Check.ReportedLaws.{second_names}
use Rattle.hz_description_model.proofs.checks.second_names_are_reported.Goals as goal

pub returns : goal.returns
returns c = second_names
