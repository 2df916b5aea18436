use Rattle.std.proofs.Common.{ℕ, List, length, All, inl, inr, sym, ap, subst, arith}
use Rattle.hz_pipeline_model.proofs.Traces.NameLaws.{events_of_classes, events_of_queries}
use Rattle.hz_pipeline_model.specs.Accepting.Asking.{IsOfQuery}
use Rattle.hz_pipeline_model.specs.Accepting.Events.{IsOfClass}
use Rattle.hz_pipeline_model.specs.Traces.Traces.{TraceFaultAt, trace_word}
use Rattle.hz_answer_model.specs.TableAnswers.{Walks, WalksTrace}
use Rattle.hz_pipeline_model.specs.Tables.MachineNames.{names_of_machine}
use Rattle.hz_replay.specs.Replaying.{IsOutcome}
use Rattle.hz_replay.specs.Traces.{events_in}
use Rattle.hz_replay.specs.declared.event.Event.{Event}
use Rattle.hz_report.specs.Replays.{replay_text}
use Rattle.hz_tables.specs.Machines.{machine_of}
use Rattle.hz_tool.specs.Deciding.{replay_status}
use Rattle.hz_tool.proofs.ReplayedLemmas.{replay_reported}
use Rattle.hz_front.proofs.TraceLemmas.{trace_few}
use Rattle.hz_front_model.specs.Phases.{TellsFault}
use Rattle.hz_tool.proofs.DecideLemmas.{hands_on}
use Rattle.hz_tool.proofs.commands.replay.walk_trace.Goals as goal

pub outcome_of-outcome-requires-clause-classes : goal.outcome_of-outcome-requires-clause-classes
outcome_of-outcome-requires-clause-classes c =
    let read = c.in_ok-events.ensures.ok in
    subst (λ (es : List Event). All (IsOfClass (length c.args.machine.classes.items)) (events_in es)) (sym c.deref.ensures.value) (events_of_classes (names_of_machine (machine_of c.args.machine)) read.lines)

pub outcome_of-outcome-requires-clause-asks : goal.outcome_of-outcome-requires-clause-asks
outcome_of-outcome-requires-clause-asks c =
    let read = c.in_ok-events.ensures.ok in
    let names = names_of_machine (machine_of c.args.machine) in
    subst (λ (es : List Event). All (IsOfQuery names.queries) (events_in es)) (sym c.deref.ensures.value) (events_of_queries names read.lines)

pub outcome_of-outcome-requires-clause-few : goal.outcome_of-outcome-requires-clause-few
outcome_of-outcome-requires-clause-few c =
    let few = trace_few (names_of_machine (machine_of c.args.machine)) c.args.trace.now c.in_ok-events.events.items c.in_ok-events.ensures.lines in
    let short = c.requires in
    omega (arith, few, short, ap length c.deref.ensures.value)

pub returns-in_err-events : goal.returns-in_err-events
returns-in_err-events c =
    let m = machine_of c.args.machine in
    let names = names_of_machine m in
    hands_on (TellsFault trace_word (TraceFaultAt names c.args.trace.now) c.args.file.now) (WalksTrace c.args.file.now c.args.trace.now m) (λ s t h. inr h)
    c.from_residual.result c.in_err-events.field-0.0 c.from_residual.ensures.1 (c.in_err-events.ensures.kind, c.in_err-events.ensures.err)

pub returns : goal.returns
returns c =
    let read = c.in_ok-events.ensures.ok in
    let events = c.in_ok-events.events.items in
    let m = machine_of c.args.machine in
    let names = names_of_machine m in
    let outcome = c.outcome_of-outcome.result in
    let is = subst (λ (es : List Event). IsOutcome m (events_in es) outcome) c.deref.ensures.value c.outcome_of-outcome.ensures in (
      record { classes = events_of_classes names read.lines; asks = events_of_queries names read.lines; replayed = is },
      inl (events_in events, read, subst (λ (ls : List ℕ). Walks m ls (events_in events) (replay_status outcome) (replay_text m events outcome)) c.in_ok-events.ensures.lines (replay_reported m events outcome (events_of_classes names read.lines) is)),
    )
