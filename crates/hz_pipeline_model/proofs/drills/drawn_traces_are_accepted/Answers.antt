use Rattle.std.proofs.Common.{[]}
use Rattle.hz_pipeline_model.proofs.Traces.DrillLaws.{draws_accepted}
use Rattle.hz_pipeline_model.proofs.drills.drawn_traces_are_accepted.Goals as goal

pub returns : goal.returns
returns g c = λ none advances classes number turns t is. draws_accepted g.A.Acceptance.accepts advances classes [] none number turns t is
