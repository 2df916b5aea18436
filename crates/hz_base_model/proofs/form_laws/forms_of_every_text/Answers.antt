use Rattle.hz_base_model.proofs.Forms.FormsFront.{every_text}
use Rattle.hz_base_model.proofs.form_laws.forms_of_every_text.Goals as goal

pub returns : goal.returns
returns c = every_text
