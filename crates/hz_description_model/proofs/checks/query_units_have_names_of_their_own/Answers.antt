use Rattle.hz_description_model.proofs.Check.QueryPlaces.{names_of_their_own}
use Rattle.hz_description_model.proofs.checks.query_units_have_names_of_their_own.Goals as goal

pub returns : goal.returns
returns c = λ automata classes bypasses attributes kept. names_of_their_own automata kept.unit_names kept.queries
