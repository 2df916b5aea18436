use Rattle.hz_laws.proofs.Written.FormsBack.{form_back}
use Rattle.hz_laws.proofs.form_laws.forms_say_what_is_written.Goals as goal

pub returns : goal.returns
returns c = form_back
