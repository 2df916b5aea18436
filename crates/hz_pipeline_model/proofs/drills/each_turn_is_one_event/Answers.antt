use Rattle.std.proofs.Common.{[]}
use Rattle.hz_pipeline_model.proofs.Traces.DrillLaws.{draws_each, draws_counts, draws_of_class, draws_of_turn, draws_of_query}
use Rattle.hz_pipeline_model.proofs.drills.each_turn_is_one_event.Goals as goal

pub returns-clause-events : goal.returns-clause-events
returns-clause-events g c = λ classes number turns t is. draws_each g.A.Acceptance.accepts classes [] number turns t is

pub returns-clause-counts : goal.returns-clause-counts
returns-clause-counts g c = λ classes number turns t is. draws_counts g.A.Acceptance.accepts classes [] number turns t is

pub returns-clause-kinds : goal.returns-clause-kinds
returns-clause-kinds g c = λ classes number turns t is. draws_of_turn g.A.Acceptance.accepts classes [] number turns t is

pub returns-clause-classes : goal.returns-clause-classes
returns-clause-classes g c = λ classes number turns t is. draws_of_class g.A.Acceptance.accepts classes [] number turns t is

pub returns-clause-queries : goal.returns-clause-queries
returns-clause-queries g c = λ queries classes number turns t is. draws_of_query g.A.Acceptance.accepts queries classes [] number turns t is
