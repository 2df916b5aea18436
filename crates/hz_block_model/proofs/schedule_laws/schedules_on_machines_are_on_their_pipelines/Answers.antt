use Rattle.hz_pipeline_model.specs.Accepting.Replay.{Accepted}
use Rattle.hz_block_model.proofs.Scheduling.SameSchedules.{legal_there, greedy_there}
use Rattle.hz_block_model.proofs.schedule_laws.schedules_on_machines_are_on_their_pipelines.Goals as goal
use Rattle.hz_pipeline_model.specs.Tables.Machines.{IsWalked}

pub returns-clause-legal : goal.returns-clause-legal
returns-clause-legal g c = λ m p classes agree graph ranges slots. (
  legal_there classes (IsWalked m) (Accepted p) (λ t all. (agree t all).0) (λ t all. (agree t all).1) graph ranges slots,
  legal_there classes (Accepted p) (IsWalked m) (λ t all. (agree t all).1) (λ t all. (agree t all).0) graph ranges slots,
)

pub returns-clause-greedy : goal.returns-clause-greedy
returns-clause-greedy g c = λ m p classes agree graph ranges slots. (
  greedy_there classes (IsWalked m) (Accepted p) (λ t all. (agree t all).0) (λ t all. (agree t all).1) graph ranges slots,
  greedy_there classes (Accepted p) (IsWalked m) (λ t all. (agree t all).1) (λ t all. (agree t all).0) graph ranges slots,
)
