use Rattle.hz_block_model.proofs.Scheduling.TraceLaws.{issues_spelled, asks_spelled, few_spelled, cycles_spelled}
use Rattle.hz_block_model.proofs.schedule_laws.traces_issue_each_slot.Goals as goal

pub returns-clause-issues : goal.returns-clause-issues
returns-clause-issues c = λ g slots. issues_spelled g slots

pub returns-clause-few : goal.returns-clause-few
returns-clause-few c = λ g slots. few_spelled g slots

pub returns-clause-cycles : goal.returns-clause-cycles
returns-clause-cycles c = λ g slots rising. cycles_spelled g slots rising

pub returns-clause-asks : goal.returns-clause-asks
returns-clause-asks c = λ g slots. asks_spelled g slots
