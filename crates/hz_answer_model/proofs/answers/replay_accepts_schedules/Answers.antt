use Rattle.hz_answer_model.proofs.HeadlineLaws.{accepts_schedule}
use Rattle.hz_answer_model.proofs.answers.replay_accepts_schedules.Goals as goal

pub returns : goal.returns
returns c = accepts_schedule
