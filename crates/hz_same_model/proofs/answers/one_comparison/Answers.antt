use Rattle.hz_same_model.proofs.SingleLaws.{same_single}
use Rattle.hz_same_model.proofs.answers.one_comparison.Goals as goal

pub returns : goal.returns
returns c = same_single
