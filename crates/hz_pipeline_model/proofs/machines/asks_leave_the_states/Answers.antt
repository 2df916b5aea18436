use Rattle.hz_pipeline_model.proofs.Tables.MachineLaws.{word_of-asked, parts_walk-asked, machine_walk-asked}
use Rattle.hz_pipeline_model.proofs.machines.asks_leave_the_states.Goals as goal

pub returns-clause-words : goal.returns-clause-words
returns-clause-words c = word_of-asked

pub returns-clause-walks : goal.returns-clause-walks
returns-clause-walks c = parts_walk-asked

pub returns-clause-machines : goal.returns-clause-machines
returns-clause-machines c = machine_walk-asked
