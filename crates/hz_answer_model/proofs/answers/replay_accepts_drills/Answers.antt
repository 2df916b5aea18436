use Rattle.hz_answer_model.proofs.DrillHeadline.{accepts_drill}
use Rattle.hz_answer_model.proofs.answers.replay_accepts_drills.Goals as goal

pub returns : goal.returns
returns c = accepts_drill
