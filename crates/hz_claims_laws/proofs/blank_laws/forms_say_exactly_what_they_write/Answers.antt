use Rattle.hz_claims_laws.proofs.FreeForms.{form_back, condition_back}
use Rattle.hz_claims_laws.proofs.FreeFormsOnly.{form_there, condition_there}
use Rattle.hz_claims_laws.proofs.blank_laws.forms_say_exactly_what_they_write.Goals as goal

pub returns-clause-forms : goal.returns-clause-forms
returns-clause-forms c = λ read n form addition. (form_there read n form addition, form_back read n form addition)

pub returns-clause-conditions : goal.returns-clause-conditions
returns-clause-conditions c = λ form test. (condition_there form test, condition_back form test)
