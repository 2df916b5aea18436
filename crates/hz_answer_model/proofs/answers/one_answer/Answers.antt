use Rattle.hz_answer_model.proofs.AnswerLaws.{answer_single}
use Rattle.hz_answer_model.proofs.answers.one_answer.Goals as goal

pub returns : goal.returns
returns c = answer_single
