use Rattle.hz_why_model.proofs.WaitLaws.{waits_accepted}
use Rattle.hz_why_model.proofs.waits.waits_are_of_acceptance.Goals as goal

pub returns : goal.returns
returns g c = waits_accepted
