use Rattle.hz_pipeline_model.proofs.Traces.NameLaws.{query_named, query_placed, no_query_placed, query_missing}
use Rattle.hz_pipeline_model.proofs.trace_laws.places_of_queries.Goals as goal

pub returns-clause-named : goal.returns-clause-named
returns-clause-named c = query_named

pub returns-clause-none : goal.returns-clause-none
returns-clause-none c = λ names name. (no_query_placed names name, query_missing names name)

pub returns-clause-placed : goal.returns-clause-placed
returns-clause-placed c = query_placed
