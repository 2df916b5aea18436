use Rattle.std.proofs.Common.{refl}
use Rattle.hz_claims_laws.proofs.FormTexts.{forms_back}
use Rattle.hz_claims_laws.proofs.file_laws.files_say_the_forms_that_they_write.Goals as goal

pub returns-clause-read : goal.returns-clause-read
returns-clause-read c = forms_back

pub returns-clause-example : goal.returns-clause-example
returns-clause-example c = refl
