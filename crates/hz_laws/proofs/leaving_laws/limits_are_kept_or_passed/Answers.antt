use Rattle.hz_laws.proofs.Leaving.LimitsReported.{are_counted}
use Rattle.hz_laws.proofs.leaving_laws.limits_are_kept_or_passed.Goals as goal

pub returns : goal.returns
returns c = record { reported = are_counted }
