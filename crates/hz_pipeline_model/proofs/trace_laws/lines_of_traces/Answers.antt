use Rattle.hz_pipeline_model.proofs.Traces.WordLaws.{issue_line, advance_line, skipped_line, unknown_line, ask_line, no_query_line}
use Rattle.hz_pipeline_model.proofs.trace_laws.lines_of_traces.Goals as goal

pub returns-clause-issue : goal.returns-clause-issue
returns-clause-issue c = issue_line

pub returns-clause-advance : goal.returns-clause-advance
returns-clause-advance c = advance_line

pub returns-clause-skipped : goal.returns-clause-skipped
returns-clause-skipped c = skipped_line

pub returns-clause-unknown : goal.returns-clause-unknown
returns-clause-unknown c = unknown_line

pub returns-clause-ask : goal.returns-clause-ask
returns-clause-ask c = ask_line

pub returns-clause-no_query : goal.returns-clause-no_query
returns-clause-no_query c = no_query_line
