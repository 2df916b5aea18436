use Rattle.hz_description_model.proofs.Check.EarliestLaws.{earliest_law, no_site}
use Rattle.hz_description_model.proofs.checks.earliest_is_the_first_of_the_first_form.Goals as goal

pub returns-clause-some : goal.returns-clause-some
returns-clause-some c = earliest_law

pub returns-clause-none : goal.returns-clause-none
returns-clause-none c = no_site
