use Rattle.hz_laws.proofs.Leaving.CountsReported.{counts_reported}
use Rattle.hz_laws.proofs.leaving_laws.every_count_is_reported.Goals as goal

pub returns : goal.returns
returns g c = record { reported = counts_reported }
