use Rattle.hz_tool.proofs.ReplayLaws.{replayed}
use Rattle.hz_tool.proofs.laws.replay_answers_for_the_description.Goals as goal

pub returns : goal.returns
returns c = replayed
