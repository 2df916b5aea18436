use Rattle.hz_same_model.proofs.TellingLaws.{one_least, no_least}
use Rattle.hz_same_model.proofs.telling.one_least_trace.Goals as goal

pub returns-clause-one : goal.returns-clause-one
returns-clause-one c = one_least

pub returns-clause-none : goal.returns-clause-none
returns-clause-none c = no_least
