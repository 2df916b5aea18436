use Rattle.hz_description_model.proofs.Check.ReportedLaws.{second_numbers_reported}
use Rattle.hz_description_model.proofs.checks.second_numbers_are_reported.Goals as goal

pub returns : goal.returns
returns c = second_numbers_reported
