use Rattle.hz_answer_model.proofs.HeadlineLaws.{writes_schedule}
use Rattle.hz_answer_model.proofs.answers.schedules_keep_their_blocks.Goals as goal

pub returns : goal.returns
returns c = writes_schedule
