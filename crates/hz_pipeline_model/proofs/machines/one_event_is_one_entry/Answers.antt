use Rattle.hz_pipeline_model.proofs.Tables.MachineLaws.{issue_alone, advance_alone, ask_alone}
use Rattle.hz_pipeline_model.proofs.machines.one_event_is_one_entry.Goals as goal

pub returns-clause-issue : goal.returns-clause-issue
returns-clause-issue c = issue_alone

pub returns-clause-advance : goal.returns-clause-advance
returns-clause-advance c = advance_alone

pub returns-clause-ask : goal.returns-clause-ask
returns-clause-ask c = ask_alone
