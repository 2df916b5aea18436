use Rattle.hz_tabtext_model.proofs.FaultLaws.{first_of_fault, last_of_fault, truncated_line, last_is_truncated}
use Rattle.hz_tabtext_model.proofs.faults.faults_are_at_lines.Goals as goal

pub returns-clause-first : goal.returns-clause-first
returns-clause-first c = first_of_fault

pub returns-clause-last : goal.returns-clause-last
returns-clause-last c = λ text fault e. (last_of_fault text fault e).0

pub returns-clause-ended : goal.returns-clause-ended
returns-clause-ended c = truncated_line

pub returns-clause-not_ended : goal.returns-clause-not_ended
returns-clause-not_ended c = last_is_truncated
