use Rattle.hz_pipeline_model.specs.Accepting.Replay.{Accepted}
use Rattle.hz_block_model.proofs.Scheduling.OneSchedule.{one_schedule}
use Rattle.hz_block_model.proofs.schedule_laws.one_schedule_on_each.Goals as goal
use Rattle.hz_pipeline_model.specs.Tables.Machines.{IsWalked}

pub returns-clause-machine : goal.returns-clause-machine
returns-clause-machine g c = λ m graph s t legal greedy lawful eager. one_schedule (IsWalked m) graph s t legal greedy lawful eager

pub returns-clause-pipeline : goal.returns-clause-pipeline
returns-clause-pipeline g c = λ p graph s t legal greedy lawful eager. one_schedule (Accepted p) graph s t legal greedy lawful eager
