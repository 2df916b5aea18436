use Rattle.hz_answer_model.proofs.WalkLaws.{walk_is_replay}
use Rattle.hz_answer_model.proofs.answers.walk_is_replay.Goals as goal

pub returns : goal.returns
returns c = walk_is_replay
