use Rattle.hz_block_model.proofs.Scheduled.FaultLaws.{one_wrong_class, wrong_class_or_graph}
use Rattle.hz_block_model.proofs.kept_laws.one_class_fault.Goals as goal

pub returns-clause-one : goal.returns-clause-one
returns-clause-one c = one_wrong_class

pub returns-clause-none : goal.returns-clause-none
returns-clause-none c = wrong_class_or_graph
