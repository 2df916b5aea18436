use Rattle.hz_why_model.proofs.ReasonLaws.{named_forbids}
use Rattle.hz_why_model.proofs.Taking.{named_unless_fits}
use Rattle.hz_why_model.proofs.reasons.reasons_are_named_where_nothing_fits.Goals as goal

pub returns-clause-forbids : goal.returns-clause-forbids
returns-clause-forbids g c = named_forbids

pub returns-clause-alternative : goal.returns-clause-alternative
returns-clause-alternative g c = named_unless_fits
