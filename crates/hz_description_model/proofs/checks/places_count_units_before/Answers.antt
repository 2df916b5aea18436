use Rattle.hz_description_model.proofs.Check.ReportedLaws.{places_count}
use Rattle.hz_description_model.proofs.checks.places_count_units_before.Goals as goal

pub returns : goal.returns
returns c = places_count
