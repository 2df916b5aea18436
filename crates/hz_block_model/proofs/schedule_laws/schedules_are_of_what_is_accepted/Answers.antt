use Rattle.hz_block_model.proofs.Scheduling.SameSchedules.{legal_there, greedy_there}
use Rattle.hz_block_model.proofs.schedule_laws.schedules_are_of_what_is_accepted.Goals as goal

pub returns-clause-legal : goal.returns-clause-legal
returns-clause-legal g c = λ classes agree graph ranges slots. (
  legal_there classes g.A.Acceptance.accepts g.B.Acceptance.accepts (λ t all. (agree t all).0) (λ t all. (agree t all).1) graph ranges slots,
  legal_there classes g.B.Acceptance.accepts g.A.Acceptance.accepts (λ t all. (agree t all).1) (λ t all. (agree t all).0) graph ranges slots,
)

pub returns-clause-greedy : goal.returns-clause-greedy
returns-clause-greedy g c = λ classes agree graph ranges slots. (
  greedy_there classes g.A.Acceptance.accepts g.B.Acceptance.accepts (λ t all. (agree t all).0) (λ t all. (agree t all).1) graph ranges slots,
  greedy_there classes g.B.Acceptance.accepts g.A.Acceptance.accepts (λ t all. (agree t all).1) (λ t all. (agree t all).0) graph ranges slots,
)
