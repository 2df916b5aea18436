use Rattle.hz_answer_model.proofs.AskedUnits.{asks_unit, asks_query, finds_query}
use Rattle.hz_answer_model.proofs.asks.asks_are_of_the_units_they_name.Goals as goal

pub returns-clause-named : goal.returns-clause-named
returns-clause-named c = asks_unit

pub returns-clause-query : goal.returns-clause-query
returns-clause-query c = asks_query

pub returns-clause-found : goal.returns-clause-found
returns-clause-found c = finds_query
