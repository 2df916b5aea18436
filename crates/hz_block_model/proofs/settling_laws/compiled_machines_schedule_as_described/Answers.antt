use Rattle.hz_block_model.proofs.Settling.DescribedLaws.{legal_as_described, greedy_as_described, stuck_as_described, start_as_described}
use Rattle.hz_block_model.proofs.settling_laws.compiled_machines_schedule_as_described.Goals as goal

pub returns-clause-legal : goal.returns-clause-legal
returns-clause-legal c = λ d known sound m reports compiled g ranges slots. legal_as_described d known sound m reports compiled g ranges slots

pub returns-clause-greedy : goal.returns-clause-greedy
returns-clause-greedy c = λ d known sound m reports compiled g ranges slots. greedy_as_described d known sound m reports compiled g ranges slots

pub returns-clause-stuck : goal.returns-clause-stuck
returns-clause-stuck c = λ d known sound m reports compiled g ranges place reported. stuck_as_described d known sound m reports compiled g ranges place reported

pub returns-clause-start : goal.returns-clause-start
returns-clause-start c = λ d known sound m reports compiled g ranges reported i lt. start_as_described d known sound m reports compiled g ranges reported i lt
