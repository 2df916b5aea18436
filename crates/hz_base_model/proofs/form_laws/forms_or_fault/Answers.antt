use Rattle.hz_base_model.proofs.Forms.FormsLaws.{forms_or_fault}
use Rattle.hz_base_model.proofs.form_laws.forms_or_fault.Goals as goal

pub returns : goal.returns
returns c = forms_or_fault
