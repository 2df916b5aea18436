use Rattle.hz_pipeline_model.proofs.Traces.TraceLaws.{trace_of_every_text}
use Rattle.hz_pipeline_model.proofs.trace_laws.events_of_every_text.Goals as goal

pub returns : goal.returns
returns c = trace_of_every_text
