use Rattle.hz_description_model.proofs.Check.QueryLaws.{first_query}
use Rattle.hz_description_model.proofs.checks.first_query_units_are_reported.Goals as goal

pub returns : goal.returns
returns c = first_query
