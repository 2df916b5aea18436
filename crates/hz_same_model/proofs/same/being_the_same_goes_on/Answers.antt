use Rattle.hz_same_model.proofs.SameLaws.{same_on, same_itself}
use Rattle.hz_same_model.proofs.same.being_the_same_goes_on.Goals as goal

pub returns-clause-on : goal.returns-clause-on
returns-clause-on c = same_on

pub returns-clause-itself : goal.returns-clause-itself
returns-clause-itself c = same_itself
