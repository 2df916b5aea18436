use Rattle.hz_block_model.proofs.Scheduling.OneSchedule.{one_schedule}
use Rattle.hz_block_model.proofs.schedule_laws.one_schedule_is_legal_and_greedy.Goals as goal

pub returns : goal.returns
returns g c = λ graph s t legal greedy lawful eager. one_schedule g.A.Acceptance.accepts graph s t legal greedy lawful eager
