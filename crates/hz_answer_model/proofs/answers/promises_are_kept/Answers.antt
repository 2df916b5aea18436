use Rattle.hz_answer_model.proofs.PromiseLaws.{promised}
use Rattle.hz_answer_model.proofs.answers.promises_are_kept.Goals as goal

pub returns : goal.returns
returns c = promised
