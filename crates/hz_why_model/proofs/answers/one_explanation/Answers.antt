use Rattle.hz_why_model.proofs.SingleLaws.{why_single}
use Rattle.hz_why_model.proofs.answers.one_explanation.Goals as goal

pub returns : goal.returns
returns c = why_single
