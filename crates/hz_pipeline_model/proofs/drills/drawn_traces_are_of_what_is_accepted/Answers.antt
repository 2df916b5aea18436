use Rattle.hz_pipeline_model.proofs.Traces.DrillLaws.{drawn_there}
use Rattle.hz_pipeline_model.proofs.drills.drawn_traces_are_of_what_is_accepted.Goals as goal

pub returns : goal.returns
returns g c = λ classes agree number turns t. (
  drawn_there classes g.A.Acceptance.accepts g.B.Acceptance.accepts (λ t all. (agree t all).0) (λ t all. (agree t all).1) number turns t,
  drawn_there classes g.B.Acceptance.accepts g.A.Acceptance.accepts (λ t all. (agree t all).1) (λ t all. (agree t all).0) number turns t,
)
