use Rattle.hz_description_model.proofs.Check.QueryPlaces.{query_place, queries_ascend, asked_names}
use Rattle.hz_description_model.proofs.checks.query_units_are_units.Goals as goal

pub returns-clause-places : goal.returns-clause-places
returns-clause-places c = query_place

pub returns-clause-ascending : goal.returns-clause-ascending
returns-clause-ascending c = queries_ascend

pub returns-clause-names : goal.returns-clause-names
returns-clause-names c = asked_names
