use Rattle.std.proofs.Common.{ℕ, List, subst}
use Rattle.hz_front_model.specs.Asks.{trace_names}
use Rattle.hz_mdread.specs.Shape.{description}
use Rattle.hz_pipeline_model.proofs.Traces.NameLaws.{events_of_classes, events_of_queries}
use Rattle.hz_replay.specs.Traces.{events_in}
use Rattle.hz_why_model.specs.Answers.{ReplaysAndExplains}
use Rattle.hz_explain.proofs.judging.explain_events.Goals as goal

pub explain-requires-clause-classes : goal.explain-requires-clause-classes
explain-requires-clause-classes c = events_of_classes (trace_names (description c.args.desc.now)) c.requires.read.lines

pub explain-requires-clause-asks : goal.explain-requires-clause-asks
explain-requires-clause-asks c = events_of_queries (trace_names (description c.args.desc.now)) c.requires.read.lines

pub returns-in-Ok-clause-answer : goal.returns-in-Ok-clause-answer
returns-in-Ok-clause-answer c = λ is.
    subst (λ (lines : List ℕ). ReplaysAndExplains (description c.args.desc.now) is.known lines (events_in c.args.events.now) c.in-Ok.explained.status c.in-Ok.explained.text.items) c.requires.lines (c.in-Ok.ensures.explains is)
