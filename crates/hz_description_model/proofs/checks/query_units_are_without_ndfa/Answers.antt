use Rattle.hz_description_model.proofs.Check.QueryLaws.{no_query_unit, asks_nothing}
use Rattle.hz_description_model.proofs.checks.query_units_are_without_ndfa.Goals as goal

pub returns-clause-units : goal.returns-clause-units
returns-clause-units c = no_query_unit

pub returns-clause-automata : goal.returns-clause-automata
returns-clause-automata c = asks_nothing
