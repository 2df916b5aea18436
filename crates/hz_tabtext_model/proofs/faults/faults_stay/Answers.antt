use Rattle.hz_tabtext_model.proofs.FaultLaws.{fault_stays, no_machine}
use Rattle.hz_tabtext_model.proofs.faults.faults_stay.Goals as goal

pub returns-clause-reported : goal.returns-clause-reported
returns-clause-reported c = fault_stays

pub returns-clause-no_machine : goal.returns-clause-no_machine
returns-clause-no_machine c = no_machine
