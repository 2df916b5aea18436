use Rattle.hz_check.proofs.Telling.CheckSteps.{copied_there}
use Rattle.hz_check.proofs.faults.reported.fault.Goals as goal

pub returns : goal.returns
returns c = rw c.fault_if_copied.ensures (copied_there c.args.reported c.copy.result c.copy.ensures)
