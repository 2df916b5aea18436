use Rattle.hz_answer_model.proofs.DrillHeadline.{writes_drill}
use Rattle.hz_answer_model.proofs.answers.drills_are_of_accepted_traces.Goals as goal

pub returns : goal.returns
returns c = writes_drill
