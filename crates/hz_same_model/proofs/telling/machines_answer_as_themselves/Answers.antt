use Rattle.hz_same_model.proofs.TellingLaws.{answers_itself}
use Rattle.hz_same_model.proofs.telling.machines_answer_as_themselves.Goals as goal

pub returns : goal.returns
returns c = answers_itself
