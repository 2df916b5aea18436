use Rattle.hz_answer_model.proofs.AnswerTotal.{answer_one}
use Rattle.hz_answer_model.proofs.answers.some_answer.Goals as goal

pub returns : goal.returns
returns c = answer_one
