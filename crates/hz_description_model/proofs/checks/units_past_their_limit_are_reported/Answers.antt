use Rattle.hz_description_model.proofs.Check.ReportedLaws.{units_past}
use Rattle.hz_description_model.proofs.checks.units_past_their_limit_are_reported.Goals as goal

pub returns : goal.returns
returns c = units_past
