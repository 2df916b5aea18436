use Rattle.hz_description_model.proofs.Check.ReportedLaws.{size_reported, no_size_reported}
use Rattle.hz_description_model.proofs.checks.size_is_reported_where_it_passes.Goals as goal

pub returns-clause-some : goal.returns-clause-some
returns-clause-some c = size_reported

pub returns-clause-none : goal.returns-clause-none
returns-clause-none c = no_size_reported
