use Rattle.std.proofs.Common.{List, subst}
use Rattle.hz_front_model.specs.Asks.{trace_names}
use Rattle.hz_front_model.specs.Phases.{TellsFault}
use Rattle.hz_base_model.specs.Lines.{lines_of}
use Rattle.hz_mdread.specs.Shape.{description}
use Rattle.hz_pipeline_model.specs.Traces.TraceNames.{TraceNames}
use Rattle.hz_pipeline_model.specs.Traces.Traces.{Trace, TraceFaultAt, trace_word, event_lines}
use Rattle.hz_replay.specs.Traces.{events_in}
use Rattle.hz_replay.specs.declared.event.Event.{Event}
use Rattle.hz_front.specs.Refusals.{Agrees}
use Rattle.hz_front.proofs.TraceLemmas.{trace_refused}
use Rattle.hz_why_model.specs.Answers.{ReplaysAndExplains}
use Rattle.hz_explain.specs.Deciding.{Answers, decided_in}
use Rattle.hz_front.proofs.TraceLemmas.{trace_on}
use Rattle.hz_explain.proofs.judging.explain_text.Goals as goal

pub returns-in-Ok-judge_events-clause-answer : goal.returns-in-Ok-judge_events-clause-answer
returns-in-Ok-judge_events-clause-answer c = λ is.
    let d = description c.args.desc.now in
    let read = subst (λ (names : TraceNames). Trace names c.args.traced.now (events_in c.in-Ok-judge_events.events.items)) c.in-Ok.ensures c.in-Ok-judge_events.ensures.ok in
    trace_on (trace_names d) c.args.trace.now c.args.traced.now (events_in c.in-Ok-judge_events.events.items) (ReplaysAndExplains d is.known (event_lines (trace_names d) 1 (lines_of c.args.traced.now))) (decided_in c.explain_events.result) read
    (subst (λ (es : List Event). Answers (ReplaysAndExplains d is.known (event_lines (trace_names d) 1 (lines_of c.args.traced.now)) (events_in es)) c.explain_events.result) c.deref.ensures.value (c.explain_events.ensures.answer is))

pub returns-clause-answer : goal.returns-clause-answer
returns-clause-answer c = λ is.
    let d = description c.args.desc.now in
    trace_refused (trace_names d) c.args.trace.now c.args.traced.now (ReplaysAndExplains d is.known (event_lines (trace_names d) 1 (lines_of c.args.traced.now))) c.in-Err.refusal
    (subst (λ (names : TraceNames). Agrees (TellsFault trace_word (TraceFaultAt names c.args.traced.now) c.args.trace.now) c.in-Err.refusal) c.in-Ok.ensures c.in-Err.ensures.err)
