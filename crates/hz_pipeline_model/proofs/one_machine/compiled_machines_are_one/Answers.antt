use Rattle.hz_pipeline_model.proofs.Single.MachineLaws.{one_machine, all_tell_the_same, one_reported}
use Rattle.hz_pipeline_model.proofs.one_machine.compiled_machines_are_one.Goals as goal

pub returns-clause-machine : goal.returns-clause-machine
returns-clause-machine c = one_machine

pub returns-clause-reported : goal.returns-clause-reported
returns-clause-reported c = all_tell_the_same

pub returns-clause-reports : goal.returns-clause-reports
returns-clause-reports c = one_reported
