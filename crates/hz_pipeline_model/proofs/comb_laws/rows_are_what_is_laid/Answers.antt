use Rattle.hz_pipeline_model.proofs.Combs.CombLaws.{rows_in-each, rows_in-width, rows_in-entry}
use Rattle.hz_pipeline_model.proofs.comb_laws.rows_are_what_is_laid.Goals as goal

pub returns-clause-each : goal.returns-clause-each
returns-clause-each c = rows_in-each

pub returns-clause-width : goal.returns-clause-width
returns-clause-width c = rows_in-width

pub returns-clause-entries : goal.returns-clause-entries
returns-clause-entries c = rows_in-entry
