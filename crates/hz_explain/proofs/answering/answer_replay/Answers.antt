use Rattle.std.proofs.Common.{◌≡◌, ℕ, List, ◌++◌, sym, ap, ◌∙◌, subst}
use Rattle.std.specs.List.{flat_map}
use Rattle.hz_front_model.specs.Replays.{Replays}
use Rattle.hz_front_model.specs.Asks.{held_in, trace_names}
use Rattle.hz_pipeline_model.specs.Pipelines.Pipelines.{pipeline_with}
use Rattle.hz_replay.specs.Traces.{events_in, lines_in}
use Rattle.hz_explain.specs.Answering.{names_at, asked_line, end_line, replay_text, status_of}
use Rattle.hz_explain.proofs.AnswerLaws.{replays}
use Rattle.hz_explain.proofs.answering.answer_replay.Goals as goal

pub returns-clause-replays : goal.returns-clause-replays
returns-clause-replays c = λ d known plan is are chooses asked.
    let es = c.args.events.now in
    let classes = c.args.classes.now in
    let units = names_at c.args.units.now in
    let walked = c.args.walked.now in
    let text : c.add_end.new.text.items ≡ replay_text classes units es walked.refused walked.asked.items =
    c.in_ok-add_end.ensures
    ∙ ap (λ (xs : List ℕ). xs ++ end_line classes es walked.refused) (c.in_ok-add_asks.ensures ∙ ap (λ (xs : List ℕ). xs ++ flat_map (asked_line units) c.deref.result.now) c.new-text.ensures.items ∙ ap (flat_map (asked_line units)) c.deref.ensures.value) in
    subst (λ (t : List ℕ). Replays (pipeline_with d known) (held_in d known) (trace_names d) (lines_in es) (events_in es) (status_of walked.refused) t) (sym text)
    (replays d known classes units es is plan walked.frontier walked.refused walked.asked.items are chooses asked)
