use Rattle.hz_pipeline_model.proofs.Traces.TraceLaws.{one_trace, counted_lines}
use Rattle.hz_pipeline_model.proofs.trace_laws.one_list_of_events.Goals as goal

pub returns-clause-events : goal.returns-clause-events
returns-clause-events c = one_trace

pub returns-clause-lines : goal.returns-clause-lines
returns-clause-lines c = λ names text events h. counted_lines names 1 h.lines
