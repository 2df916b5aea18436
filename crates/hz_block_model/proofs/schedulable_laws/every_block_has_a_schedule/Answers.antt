use Rattle.hz_block_model.proofs.Schedulable.ScheduleTotal.{some_schedule_of, soon_issued, next_issued}
use Rattle.hz_block_model.proofs.schedulable_laws.every_block_has_a_schedule.Goals as goal

pub returns-clause-some : goal.returns-clause-some
returns-clause-some c = some_schedule_of

pub returns-clause-soon : goal.returns-clause-soon
returns-clause-soon c = soon_issued

pub returns-clause-next : goal.returns-clause-next
returns-clause-next c = next_issued
