use Rattle.hz_pipeline_model.proofs.Traces.NameLaws.{events_of_classes, events_of_queries}
use Rattle.hz_pipeline_model.proofs.trace_laws.events_of_traces_are_named.Goals as goal

pub returns-clause-classes : goal.returns-clause-classes
returns-clause-classes c = λ names text events h. events_of_classes names h.lines

pub returns-clause-queries : goal.returns-clause-queries
returns-clause-queries c = λ names text events h. events_of_queries names h.lines
