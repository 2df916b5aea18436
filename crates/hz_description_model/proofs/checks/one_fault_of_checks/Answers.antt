use Rattle.hz_description_model.proofs.Check.CheckLaws.{fault_one}
use Rattle.hz_description_model.proofs.checks.one_fault_of_checks.Goals as goal

pub returns : goal.returns
returns c = fault_one
