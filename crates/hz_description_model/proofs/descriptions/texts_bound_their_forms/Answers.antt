use Rattle.hz_description_model.proofs.Reading.FormSizes.{forms_few, strings_short}
use Rattle.hz_description_model.proofs.descriptions.texts_bound_their_forms.Goals as goal

pub returns-clause-count : goal.returns-clause-count
returns-clause-count c = forms_few

pub returns-clause-strings : goal.returns-clause-strings
returns-clause-strings c = λ text forms size. strings_short size text forms
