use Rattle.hz_pipeline_model.proofs.Traces.TraceLaws.{one_trace_fault}
use Rattle.hz_pipeline_model.proofs.trace_laws.one_fault_of_traces.Goals as goal

pub returns : goal.returns
returns c = one_trace_fault
