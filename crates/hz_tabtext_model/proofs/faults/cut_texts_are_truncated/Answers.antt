use Rattle.hz_tabtext_model.proofs.FaultLaws.{machine_is_cut, fault_is_cut, not_wrong_before}
use Rattle.hz_tabtext_model.proofs.faults.cut_texts_are_truncated.Goals as goal

pub returns-clause-machines : goal.returns-clause-machines
returns-clause-machines c = machine_is_cut

pub returns-clause-faults : goal.returns-clause-faults
returns-clause-faults c = fault_is_cut

pub returns-clause-nothing_before : goal.returns-clause-nothing_before
returns-clause-nothing_before c = not_wrong_before
