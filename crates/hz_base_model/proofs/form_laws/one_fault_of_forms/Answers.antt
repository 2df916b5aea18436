use Rattle.hz_base_model.proofs.Forms.FormsLaws.{one_fault}
use Rattle.hz_base_model.proofs.form_laws.one_fault_of_forms.Goals as goal

pub returns : goal.returns
returns c = one_fault
