use Rattle.hz_why_model.proofs.ChoiceLaws.{one_first_choice, only_choice_first}
use Rattle.hz_why_model.proofs.choices.one_list_of_choices_comes_first.Goals as goal

pub returns-clause-one : goal.returns-clause-one
returns-clause-one g c = one_first_choice

pub returns-clause-only : goal.returns-clause-only
returns-clause-only g c = only_choice_first
