use Rattle.hz_tool.proofs.RunLemmas.{memory_decides}
use Rattle.hz_tool.proofs.top.decide.Goals as goal

pub returns-in-Err-clause-words : goal.returns-in-Err-clause-words
returns-in-Err-clause-words g c = memory_decides _
