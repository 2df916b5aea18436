use Rattle.hz_pipeline_model.proofs.Traces.TurnLaws.{drawn_by_turns}
use Rattle.hz_pipeline_model.proofs.drills.each_turn_issues_what_it_draws.Goals as goal

pub returns : goal.returns
returns g c = drawn_by_turns g.A.Acceptance.accepts
