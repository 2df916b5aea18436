use Rattle.hz_pipeline_model.proofs.Traces.TraceLaws.{trace_or_fault}
use Rattle.hz_pipeline_model.proofs.trace_laws.events_or_fault.Goals as goal

pub returns : goal.returns
returns c = trace_or_fault
