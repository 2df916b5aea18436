use Rattle.hz_why_model.proofs.ReasonLaws.{forbidden}
use Rattle.hz_why_model.proofs.reasons.what_is_forbidden_does_not_fit.Goals as goal

pub returns : goal.returns
returns g c = forbidden
