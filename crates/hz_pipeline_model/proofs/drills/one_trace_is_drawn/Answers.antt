use Rattle.hz_pipeline_model.proofs.Traces.DrillLaws.{one_drawn}
use Rattle.hz_pipeline_model.proofs.drills.one_trace_is_drawn.Goals as goal

pub returns : goal.returns
returns g c = one_drawn g.A.Acceptance.accepts
