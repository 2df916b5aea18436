use Rattle.std.proofs.Common.{[]}
use Rattle.hz_pipeline_model.proofs.Traces.DrillLaws.{some_from}
use Rattle.hz_pipeline_model.proofs.drills.some_trace_is_drawn.Goals as goal

pub returns : goal.returns
returns g c = λ decide classes number turns. some_from g.A.Acceptance.accepts decide classes [] number turns
